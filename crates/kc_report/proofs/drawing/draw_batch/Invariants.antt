-- What the batch has written so far, with the turns that are left, is what it writes. The set has the pairs so far.
use Rattle.std.proofs.Common.{◌≡◌, ◌-◌, []}
use Rattle.kc_report.specs.declared.sizes.TheConstants.{TURNS}
use Rattle.kc_report.specs.Generator.{after_turns, state_after_turns}
use Rattle.kc_report.specs.Pairs.{HasPairs}
use Rattle.kc_report.proofs.drawing.draw_batch.Given as goal

abbrev pub invariant-loop : goal.invariant-loop
invariant-loop l = record {
  changes : after_turns l.edges (TURNS - l.counter) l.draws.state l.changes.items ≡ after_turns l.edges TURNS l.fn.draws.state [];
  state : state_after_turns (TURNS - l.counter) l.draws.state ≡ state_after_turns TURNS l.fn.draws.state;
  pairs : HasPairs l.pairs l.changes.items;
}
