-- The lines of the changes so far were read behind those from before the call.
use Rattle.std.proofs.Common.{◌≡◌, ◌≤◌, ◌+◌, ◌++◌, List, map, take}
use Rattle.std.specs.Prelude.{is_some}
use Rattle.kc_text.specs.declared.line.TextLine.{TextLine}
use Rattle.kc_text.specs.declared.line.TextLine.TheVariants.{Change}
use Rattle.kc_text.specs.Readings.{CanRead, Reads}
use Rattle.kc_text.proofs.reading.LineReader.take_changes.Given as goal

abbrev pub invariant-loop-change : goal.invariant-loop-change
invariant-loop-change l = record {
  reads : (before : List TextLine) → Reads l.limits l.fn.self before
      → Reads l.limits l.self (before ++ map (λ c. Change c) (take l.change-index l.batch));
  can : CanRead l.self;
  looks : is_some l.self.reader.ids ≡ is_some l.fn.self.reader.ids;
  lines : l.self.numbers.lines ≤ l.fn.self.numbers.lines + l.change-index;
}
