-- As many numbers are put as there were turns, and nothing is taken.
use Rattle.std.proofs.Common.{◌≡◌, []}
use Rattle.crossbeam_queue.specs.Passes.{view, IsPassOf}
use Rattle.kc_queue.specs.declared.consumer.TheConstants.{PARTS}
use Rattle.kc_queue.specs.Dealt.{hand}
use Rattle.kc_queue.proofs.queue.fill.Given as goal

abbrev pub invariant-loop-number : goal.invariant-loop-number
invariant-loop-number g l = IsPassOf l.line l.pass × (view l.pass ≡ hand PARTS l.number [])
