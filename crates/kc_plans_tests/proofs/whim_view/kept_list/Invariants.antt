-- None of the lists passed so far is one of `w`.
use Rattle.std.proofs.Common.{◌≡◌, take}
use Rattle.std.specs.Prelude.{None}
use Rattle.kc_view.specs.Answers.{list_in}
use Rattle.kc_plans_tests.proofs.whim_view.kept_list.Given as goal

abbrev pub invariant-loop-kept : goal.invariant-loop-kept
invariant-loop-kept l = list_in l.w (take l.kept-index l.edges) ≡ None
