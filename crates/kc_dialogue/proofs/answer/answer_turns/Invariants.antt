-- Whatever dialogue goes on at first goes on with as many reads as there were turns, and no call has failed.
use Rattle.std.proofs.Common.{◌≡◌, ◌<◌, ◌++◌, List, ℕ, length}
use Rattle.kc_wire.specs.Events.{WireEvent, TellsMore}
use Rattle.kc_dialogue.specs.Endings.{reads_in}
use Rattle.kc_dialogue.specs.Openings.{behind}
use Rattle.kc_dialogue.specs.Turns.{IsGoing}
use Rattle.kc_dialogue.proofs.answer.answer_turns.Given as goal

abbrev pub invariant-turns : goal.invariant-turns
invariant-turns g l = record {
  held : (start : List ℕ) (first : List WireEvent)
      → IsGoing (behind (g.R.Replier.reply l.fn.replier) start) (λ (read : List ℕ). g.R.Replier.was_fed l.fn.replier (start ++ read)) first
      → reads_in first ≡ 0
      → (events : List WireEvent) × TellsMore (g.W.Wire.history l.fn.wire) (g.W.Wire.history l.wire) events
      × IsGoing (behind (g.R.Replier.reply l.fn.replier) start) (λ (read : List ℕ). g.R.Replier.was_fed l.replier (start ++ read)) (first ++ events)
      × (reads_in (first ++ events) ≡ l.counter);
  same : g.R.Replier.reply l.replier ≡ g.R.Replier.reply l.fn.replier;
  same_at_end : g.R.Replier.reply_at_end l.replier ≡ g.R.Replier.reply_at_end l.fn.replier;
  settings : g.R.Replier.settings l.replier ≡ g.R.Replier.settings l.fn.replier;
  faultless : g.W.Wire.faults l.wire ≡ g.W.Wire.faults l.fn.wire;
  room : 0 < length l.room;
}
