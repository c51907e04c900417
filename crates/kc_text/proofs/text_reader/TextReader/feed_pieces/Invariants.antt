-- What stands before the rest was fed.
use Rattle.std.proofs.Common.{◌≡◌, ◌++◌, ℕ, List, length}
use Rattle.kc_text.specs.Feeding.{WasFed}
use Rattle.kc_text.proofs.text_reader.TextReader.feed_pieces.Given as goal

abbrev pub invariant-loop-rest : goal.invariant-loop-rest
invariant-loop-rest g l = record {
  parts : (front : List ℕ) × (front ++ l.rest ≡ l.fn.bytes) × ((fed : List ℕ) → WasFed l.fn.self fed → WasFed l.self (fed ++ front));
  limits : l.self.limits ≡ l.fn.self.limits;
}

abbrev pub decreases-loop-rest : goal.decreases-loop-rest
decreases-loop-rest g l = length l.rest
