-- The batches are numbered. Whatever the rest of them comes to, all of them come to it; those before are worked, and shown where there
-- is a screen.
use Rattle.std.proofs.Common.{◌≡◌, ◌+◌, ℕ, List, [], drop, length, map, take}
use Rattle.kc_text.specs.Inputs.{parts_of_batch}
use Rattle.kc_batch.specs.Batches.{receipts_in}
use Rattle.kc_run.specs.Courses.{HasWorked}
use Rattle.kc_run.specs.Entered.{update_count}
use Rattle.kc_output.specs.Inputs.{updates_of}
use Rattle.kc_output.specs.Screens.{HasShown}
use Rattle.kc_output.specs.Text.{TellsBatches, shown_each}
use Rattle.kc_output.proofs.batch_lines.Work.put_batches.Given as goal

abbrev pub invariant-loop-batch : goal.invariant-loop-batch
invariant-loop-batch g l = record {
  counted : l.number ≡ l.batch-index;
  size : l.course.journal.graph.size ≡ l.fn.course.journal.graph.size;
  shown : HasShown l.fn.course.journal.graph.size (l.number + 1) l.screen;
  started : l.course.journal.started ≡ l.fn.course.journal.started;
  entries : length l.course.journal.entries ≡ update_count (take l.batch-index (updates_of l.input.batches.items));
  rest : (after last : List ℕ) → TellsBatches (shown_each l.self.setting.show l.input.ids.items) (l.number + 1) l.course.journal.graph
      l.course.journal.levels.core (map parts_of_batch (drop l.batch-index l.input.batches.items))
      l.text.items after last
      → TellsBatches (shown_each l.self.setting.show l.input.ids.items) 1 l.fn.course.journal.graph l.fn.course.journal.levels.core
      (map parts_of_batch l.input.batches.items) l.fn.text.items after last;
  worked : HasWorked [] l.fn.ran.tables.items (receipts_in l.fn.ran.shares.items) l.fn.course.journal
      → HasWorked (take l.batch-index (updates_of l.input.batches.items)) l.ran.tables.items (receipts_in l.ran.shares.items) l.course.journal;
}
