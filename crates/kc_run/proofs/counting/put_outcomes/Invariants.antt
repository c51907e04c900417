-- The outcomes so far.
use Rattle.std.proofs.Common.{◌≡◌, ◌++◌, map, take}
use Rattle.kc_run.specs.Outcomes.{outcome_of}
use Rattle.kc_run.proofs.counting.put_outcomes.Given as goal

abbrev pub invariant-loop-one : goal.invariant-loop-one
invariant-loop-one l = l.outcomes.items ≡ l.fn.outcomes.items ++ map (λ d. outcome_of d.receipt) (take l.one-index l.done)
