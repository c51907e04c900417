-- The dialogue goes on in as many reads as there were turns, the file is as some save left it, and no call has failed.
use Rattle.std.proofs.Common.{◌≡◌, ◌<◌, ◌++◌, ℕ, List, length}
use Rattle.kc_wire.specs.Events.{WireEvent}
use Rattle.kc_dialogue.specs.Endings.{reads_in}
use Rattle.kc_dialogue.specs.Openings.{behind}
use Rattle.kc_dialogue.specs.Turns.{IsGoing}
use Rattle.kc_watch.specs.Text.{reply}
use Rattle.kc_watch.specs.Watching.{WasFed}
use Rattle.kc_saving.proofs.Turned.{Goes}
use Rattle.kc_saving.proofs.answer.answer_turns.Given as goal

abbrev pub invariant-turns : goal.invariant-turns
invariant-turns g l = record {
  goes : (start : List ℕ) (first : List WireEvent)
      → IsGoing (behind (reply l.fn.made.watcher.options) start) (λ read. WasFed l.fn.made.watcher (start ++ read)) first → reads_in first ≡ 0
      → Goes l.fn.made.watcher.options l.saves.file.now (g.P.Folder.holds l.fn.folder) start first l.made.watcher (g.W.Wire.history l.fn.wire)
      (g.W.Wire.history l.wire) (g.P.Folder.holds l.folder) l.saved l.counter;
  options : l.made.watcher.options ≡ l.fn.made.watcher.options;
  faultless : g.W.Wire.faults l.wire ≡ g.W.Wire.faults l.fn.wire;
  kept : g.P.Folder.failed l.folder ≡ g.P.Folder.failed l.fn.folder;
  room : 0 < length l.room;
}
