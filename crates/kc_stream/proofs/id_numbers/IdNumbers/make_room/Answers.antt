-- The table only gets zeros behind it.
use Rattle.std.proofs.Common.{◌≡◌, ◌≤◌, ◌<◌, ◌-◌, ◌++◌, ◌∙◌, ℕ, List, ap, arith, cond, length, replicate, subst, take}
use Rattle.std.specs.Prelude.{is_ok}
use Rattle.kc_graph.specs.Peeling.{at}
use Rattle.kc_stream.proofs.Numbering.{at-longer, numbers-same}
use Rattle.kc_stream.proofs.id_numbers.IdNumbers.make_room.Goals as goal

pub invariant_of-self : goal.invariant_of-self
invariant_of-self c =
    let table : List ℕ = c.args.self.now.table.items in
    let past : length table ≤ c.args.id = omega (arith, c.if-place-len.true, c.len.ensures) in
    let long : c.resize.new.self.items ≡ take c.args.id table ++ replicate (c.args.id - length table) 0 =
    grind (arith, c.resize.ensures.items, c.is_ok.ensures.value, c.if-is_ok.true) in
    record {
      apart = λ id some. c.args.self.now.apart id (subst (λ (n : ℕ). 0 < n) (at-longer table c.resize.new.self.items c.push.new.self.items
          c.args.id (c.args.id - length table) (is_ok c.push.result) past long c.push.ensures.items id) some);
    }

pub returns-then-is_ok : goal.returns-then-is_ok
returns-then-is_ok c =
    let table : List ℕ = c.args.self.now.table.items in
    let past : length table ≤ c.args.id = omega (arith, c.if-place-len.true, c.len.ensures) in
    let long : c.resize.new.self.items ≡ take c.args.id table ++ replicate (c.args.id - length table) 0 =
    grind (arith, c.resize.ensures.items, c.is_ok.ensures.value, c.if-is_ok.true) in
    λ q. numbers-same table c.push.new.self.items c.args.self.now.others q (at-longer table c.resize.new.self.items c.push.new.self.items
    c.args.id (c.args.id - length table) (is_ok c.push.result) past long c.push.ensures.items q)
