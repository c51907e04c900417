-- The lines of the batches so far were read behind those from before the call.
use Rattle.std.proofs.Common.{◌≡◌, ◌≤◌, ◌+◌, ◌++◌, List, length}
use Rattle.std.specs.Prelude.{is_some}
use Rattle.kc_text.specs.declared.line.TextLine.{TextLine}
use Rattle.kc_text.specs.Readings.{CanRead, Reads}
use Rattle.kc_text.proofs.Again.{front_lines}
use Rattle.kc_text.proofs.reading.LineReader.take_batches.Given as goal

abbrev pub invariant-loop-batch : goal.invariant-loop-batch
invariant-loop-batch l = record {
  reads : (before : List TextLine) → Reads l.limits l.fn.self before → Reads l.limits l.self (before ++ front_lines l.batches l.batch-index);
  can : CanRead l.self;
  looks : is_some l.self.reader.ids ≡ is_some l.fn.self.reader.ids;
  lines : l.self.numbers.lines ≤ l.fn.self.numbers.lines + length (front_lines l.batches l.batch-index);
}
