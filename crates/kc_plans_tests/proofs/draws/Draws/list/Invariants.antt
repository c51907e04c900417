-- The list ascends, its vertices are below `y`, and `w` is not on it.
use Rattle.kc_view.specs.Lists.{IsListOf}
use Rattle.kc_plans_tests.proofs.draws.Draws.list.Given as goal

abbrev pub invariant-loop-y : goal.invariant-loop-y
invariant-loop-y l = IsListOf l.y l.w l.list.items
