-- The number of a vertex is the place of its entry, which alone is written.
use Rattle.std.proofs.Common.{◌<◌, ◌∙◌, ◌-◌, length, length-set, sym, ap, arith}
use Rattle.std.specs.Prelude.{is_some}
use Rattle.kc_marks.specs.Maps.{value_of}
use Rattle.kc_marks.specs.declared.map.TheConstants.{FEW}
use Rattle.kc_marks.proofs.Entries.{no-value, number-changed, number-most, placed, value-at, value-changed}
use Rattle.kc_marks.proofs.map.VertexMap.replace.Goals as goal

pub returns-then-number-eq0-clause-had : goal.returns-then-number-eq0-clause-had
returns-then-number-eq0-clause-had g c =
    ap is_some (sym (no-value c.args.self.now c.args.y (sym c.number_of-number.ensures ∙ c.if-number-eq0.true)))

pub index_mut-requires : goal.index_mut-requires
index_mut-requires g c =
    let at = placed c.args.y c.number_of-number.result c.self.view_is c.number_of-number.ensures c.if-number-eq0.false in
    omega (arith, at, number-most c.self.inside.entries.items c.args.y)

pub invariant_of-self : goal.invariant_of-self
invariant_of-self g c more z =
    let at = placed c.args.y c.number_of-number.result c.self.view_is c.number_of-number.ensures c.if-number-eq0.false in
    let many : FEW < length c.self.inside.entries.items = rw length-set at more in
    c.self.invariant many z ∙ number-changed c.self.inside.entries.items c.args.y (c.number_of-number.result - 1) c.index_mut.result.now c.args.value at
    c.index_mut.ensures.value z

pub returns-clause-had : goal.returns-clause-had
returns-clause-had g c =
    let at = placed c.args.y c.number_of-number.result c.self.view_is c.number_of-number.ensures c.if-number-eq0.false in
    ap is_some (sym (value-at c.self.inside.entries.items c.args.y (c.number_of-number.result - 1) c.index_mut.result.now at))
    ∙ ap (λ m. is_some (value_of m c.args.y)) c.self.view_is

pub returns-clause-found : goal.returns-clause-found
returns-clause-found g c _ =
    let at = placed c.args.y c.number_of-number.result c.self.view_is c.number_of-number.ensures c.if-number-eq0.false in
    value-changed c.self.inside.entries.items c.args.self.now c.args.y (c.number_of-number.result - 1) c.index_mut.result.now c.args.value c.self.view_is at
    c.index_mut.ensures.value
