-- The number of a vertex is the place of its entry.
use Rattle.std.proofs.Common.{◌∙◌, ◌-◌, Some, sym, ap, arith}
use Rattle.kc_marks.specs.Maps.{value_of}
use Rattle.kc_marks.proofs.Entries.{no-value, number-most, placed, value-at}
use Rattle.kc_marks.proofs.map.VertexMap.find.Goals as goal

pub returns-then-number-eq0 : goal.returns-then-number-eq0
returns-then-number-eq0 g c = sym (no-value c.args.self.now c.args.y (sym c.number_of-number.ensures ∙ c.if-number-eq0.true))

pub index-requires : goal.index-requires
index-requires g c =
    let at = placed c.args.y c.number_of-number.result c.self.view_is c.number_of-number.ensures c.if-number-eq0.false in
    omega (arith, at, number-most c.self.inside.entries.items c.args.y)

pub returns : goal.returns
returns g c =
    let at = placed c.args.y c.number_of-number.result c.self.view_is c.number_of-number.ensures c.if-number-eq0.false in
    ap (λ e. Some e.value) c.index.ensures
    ∙ (sym (value-at c.self.inside.entries.items c.args.y (c.number_of-number.result - 1) c.index.result.now at) ∙ ap (λ m. value_of m c.args.y) c.self.view_is)
