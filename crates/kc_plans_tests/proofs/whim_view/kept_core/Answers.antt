-- The first kept core number that is one of `w` is its answer, and one of another vertex is passed.
use Rattle.std.proofs.Common.{get_or, sym}
use Rattle.std.proofs.lemmas.List.{get_or_default}
use Rattle.kc_graph.specs.declared.used.UsedPlace.{UsedPlace}
use Rattle.kc_plans_tests.proofs.Looking.{core_in-at, core_in-not_yet}
use Rattle.kc_plans_tests.proofs.whim_view.kept_core.Goals as goal

pub returns-then-kept-w : goal.returns-then-kept-w
returns-then-kept-w c =
    let none : UsedPlace = record { vertex = 0; stamp = 0; core = 0 } in
    let p : UsedPlace = get_or c.args.places.now c.loop-kept.kept-index none in
    sym
    (core_in-at c.args.w c.args.places.now c.loop-kept.kept-index p c.loop-kept-test.true
    (get_or_default c.args.places.now c.loop-kept.kept-index none p c.loop-kept-test.true) c.loop-kept.invariant c.if-kept-w.true)

pub loop-kept-preserved : goal.loop-kept-preserved
loop-kept-preserved c =
    let none : UsedPlace = record { vertex = 0; stamp = 0; core = 0 } in
    let p : UsedPlace = get_or c.args.places.now c.loop-kept.kept-index none in
    core_in-not_yet c.args.w c.args.places.now c.loop-kept.kept-index p c.loop-kept-test.true
    (get_or_default c.args.places.now c.loop-kept.kept-index none p c.loop-kept-test.true) c.loop-kept.invariant c.if-kept-w.false
