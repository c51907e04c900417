-- The first kept list that is one of `w` is its answer, and one of another vertex is passed.
use Rattle.std.proofs.Common.{sym, ◌∙◌, ap}
use Rattle.std.specs.Prelude.{Some}
use Rattle.kc_plans_tests.proofs.Looking.{list_in-at, list_in-not_yet}
use Rattle.kc_plans_tests.proofs.whim_view.kept_list.Goals as goal

pub returns-then-kept-w : goal.returns-then-kept-w
returns-then-kept-w c =
    list_in-at c.args.w c.args.edges.now c.loop-kept.kept-index c.kept-item.result c.loop-kept-test.true c.kept-item.is
    c.loop-kept.invariant c.if-kept-w.true
    ∙ ap Some (sym c.as_slice.ensures)

pub loop-kept-preserved : goal.loop-kept-preserved
loop-kept-preserved c =
    list_in-not_yet c.args.w c.args.edges.now c.loop-kept.kept-index c.kept-item.result c.loop-kept-test.true c.kept-item.is
    c.loop-kept.invariant c.if-kept-w.false
