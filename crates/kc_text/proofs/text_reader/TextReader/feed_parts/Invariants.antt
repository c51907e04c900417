-- The parts so far were fed.
use Rattle.std.proofs.Common.{◌≡◌, ◌++◌, ℕ, List, take}
use Rattle.kc_text.specs.Feeding.{WasFed}
use Rattle.kc_text.specs.Parts.{bytes_of}
use Rattle.kc_text.proofs.text_reader.TextReader.feed_parts.Given as goal

abbrev pub invariant-loop-part : goal.invariant-loop-part
invariant-loop-part l = record {
  fed : (fed : List ℕ) → WasFed l.fn.self fed → WasFed l.self (fed ++ bytes_of (take l.part-index l.parts));
  limits : l.self.limits ≡ l.fn.self.limits;
}
