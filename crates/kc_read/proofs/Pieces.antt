-- What a source gave before, and then the next piece.
use Rattle.std.proofs.Common.{◌≡◌, ◌≤◌, ◌<◌, ◌+◌, ◌-◌, ◌++◌, ℕ, List, [], Option, length, arith, length-append, ◌∙◌}
use Rattle.std.specs.Io.KnownBytes.{Consumes}
use Rattle.std.proofs.KnownBytes.{Consumes-nil, Consumes-trans}
use Rattle.kc_text.specs.Feeding.{WasFed}
use Rattle.kc_text.specs.declared.limits.Limits.{Limits}
use Rattle.kc_text.specs.declared.text_reader.TextReader.{TextReader}
use Rattle.kc_read.specs.Reading.{HasFed}

-- a reader was fed nothing, and the source gave nothing
pub HasFed-nothing : (limits : Limits) (known : Option (List ℕ)) (reader : TextReader) → WasFed reader [] → reader.limits ≡ limits
    → HasFed limits known known reader limits.bytes
HasFed-nothing limits known reader none same = record { given = []; consumed = Consumes-nil known; fed = none; room = omega arith; same = same }

-- where the next piece is at most one byte more than is allowed, so is all that was given
pub given_more : (limits : Limits) (before between after : Option (List ℕ)) (reader : TextReader) (left : ℕ) (piece : List ℕ)
    (h : HasFed limits before between reader left) → Consumes between after piece → length piece ≤ left + 1
    → Consumes before after (h.given ++ piece) × length (h.given ++ piece) ≤ limits.bytes + 1
given_more limits before between after reader left piece h took few =
    (Consumes-trans before between after h.given piece h.consumed took, omega (arith, h.room, length-append h.given piece))

-- where the next piece is longer than is allowed, all that was given is more than the limits allow
pub given_many : (limits : Limits) (before between : Option (List ℕ)) (reader : TextReader) (left : ℕ) (piece : List ℕ)
    (h : HasFed limits before between reader left) → left < length piece → limits.bytes < length (h.given ++ piece)
given_many limits before between reader left piece h many = omega (arith, h.room, length-append h.given piece)

-- a reader that was fed a piece within what is allowed was fed all that the source gave
pub HasFed-more : (limits : Limits) (before between after : Option (List ℕ)) (reader then : TextReader) (left : ℕ) (piece : List ℕ)
    → HasFed limits before between reader left → Consumes between after piece → length piece ≤ left
    → ((fed : List ℕ) → WasFed reader fed → WasFed then (fed ++ piece)) → then.limits ≡ reader.limits
    → HasFed limits before after then (left - length piece)
HasFed-more limits before between after reader then left piece h took few more same = record {
  given = h.given ++ piece;
  consumed = Consumes-trans before between after h.given piece h.consumed took;
  fed = more h.given h.fed;
  room = omega (arith, h.room, length-append h.given piece);
  same = same ∙ h.same;
}
