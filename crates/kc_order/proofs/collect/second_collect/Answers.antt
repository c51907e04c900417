-- Where no word differs, the four values say how the items stood after the collect's last prefix.
use Rattle.std.proofs.Common.{◌∙◌, refl, sym, subst}
use Rattle.std.proofs.lemmas.Bool.{false≢true}
use Rattle.kc_order.specs.Collected.{IsCollect, AllHeld, words_of}
use Rattle.kc_order.proofs.Again.{finds_same-steps}
use Rattle.kc_order.proofs.SteadyLoads.{all_held, stood_before, stood_after}
use Rattle.kc_order.proofs.collect.second_collect.Goals as goal

pub returns-then-is_before-clause-answer : goal.returns-then-is_before-clause-answer
returns-then-is_before-clause-answer c =
    let same = c.in_default.ensures.same in
    let is : IsCollect c.args.collect = subst IsCollect c.collect.view_is c.collect.invariant in
    let held : AllHeld c.args.collect = all_held c.args.collect c.args.pass.now c.load_again.new.pass is (c.requires.table.0 ∙ sym c.requires.table.1)
    c.requires.last same in
    let steps = finds_same-steps c.args.pass.now (words_of c.args.collect) c.load_again.new.pass same in
    (same, steps, stood_before c.args.collect is held (c.if-is_before.ensures.0 refl))

pub returns-clause-answer : goal.returns-clause-answer
returns-clause-answer c =
    let same = c.in_default.ensures.same in
    let is : IsCollect c.args.collect = subst IsCollect c.collect.view_is c.collect.invariant in
    let held : AllHeld c.args.collect = all_held c.args.collect c.args.pass.now c.load_again.new.pass is (c.requires.table.0 ∙ sym c.requires.table.1)
    c.requires.last same in
    let steps = finds_same-steps c.args.pass.now (words_of c.args.collect) c.load_again.new.pass same in
    (same, steps, stood_after c.args.collect is held (λ less. false≢true (c.if-is_before.ensures.1 less)))
