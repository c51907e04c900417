-- The lines of the edges so far were read behind those from before the call.
use Rattle.std.proofs.Common.{◌≡◌, ◌≤◌, ◌+◌, ◌++◌, List, take}
use Rattle.std.specs.Prelude.{is_some}
use Rattle.kc_text.specs.declared.line.TextLine.{TextLine}
use Rattle.kc_text.specs.Readings.{CanRead, Reads}
use Rattle.kc_text.specs.TellingLines.{edge_lines}
use Rattle.kc_text.proofs.reading.LineReader.take_edges.Given as goal

abbrev pub invariant-loop-a : goal.invariant-loop-a
invariant-loop-a l = record {
  reads : (before : List TextLine) → Reads l.limits l.fn.self before → Reads l.limits l.self (before ++ edge_lines (take l.a-index l.edges));
  can : CanRead l.self;
  looks : is_some l.self.reader.ids ≡ is_some l.fn.self.reader.ids;
  lines : l.self.numbers.lines ≤ l.fn.self.numbers.lines + l.a-index;
}
