-- None of the core numbers passed so far is one of `w`.
use Rattle.std.proofs.Common.{◌≡◌, take}
use Rattle.std.specs.Prelude.{None}
use Rattle.kc_view.specs.Answers.{core_in}
use Rattle.kc_plans_tests.proofs.whim_view.kept_core.Given as goal

abbrev pub invariant-loop-kept : goal.invariant-loop-kept
invariant-loop-kept l = core_in l.w (take l.kept-index l.places) ≡ None
