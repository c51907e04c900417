-- The lines in front of the rest were read behind those from before the call.
use Rattle.std.proofs.Common.{◌≡◌, ◌≤◌, ◌+◌, ◌++◌, List, length}
use Rattle.kc_text.specs.declared.line.TextLine.{TextLine}
use Rattle.kc_text.specs.Forms.{all_said}
use Rattle.kc_text.specs.Readings.{CanRead, Reads}
use Rattle.kc_text.proofs.reading.LineReader.read.Given as goal

abbrev pub invariant-loop-rest : goal.invariant-loop-rest
invariant-loop-rest l = record {
  parts : (done : List TextLine) × (all_said l.fn.bytes ≡ done ++ all_said l.rest)
      × ((before : List TextLine) → Reads l.limits l.fn.self before → Reads l.limits l.self (before ++ done));
  can : CanRead l.self;
  lines : l.self.numbers.lines + length l.rest ≤ l.fn.self.numbers.lines + length l.fn.bytes;
}

abbrev pub decreases-loop-rest : goal.decreases-loop-rest
decreases-loop-rest l = length l.rest
