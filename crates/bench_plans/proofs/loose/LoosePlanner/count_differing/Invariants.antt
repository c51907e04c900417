-- The view has handed out all that it kept.
use Rattle.std.proofs.Common.{◌≡◌}
use Rattle.kc_view.specs.Answers.{nothing_answered}
use Rattle.bench_plans.proofs.loose.LoosePlanner.count_differing.Given as goal

abbrev pub invariant-loop-update : goal.invariant-loop-update
invariant-loop-update g l = l.view.kept ≡ nothing_answered
