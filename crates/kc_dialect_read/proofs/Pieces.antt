-- What a source gave before, and then the next piece.
use Rattle.std.proofs.Common.{◌≡◌, ◌≤◌, ◌<◌, ◌-◌, ◌++◌, ℕ, List, [], Option, length, arith, length-append, ◌∙◌}
use Rattle.std.specs.Io.KnownBytes.{Consumes}
use Rattle.std.proofs.KnownBytes.{Consumes-nil, Consumes-trans}
use Rattle.kc_dialect.specs.declared.dialect.Dialect.{Dialect}
use Rattle.kc_text.specs.declared.limits.TheConstants.Limits.{GRAPH}
use Rattle.kc_dialect_read.specs.Reading.{HasPassedOn, WasGiven}
use Rattle.kc_dialect_read.specs.declared.reader.DialectReader.{DialectReader}

-- a reader was fed nothing, and the source gave nothing
pub HasPassedOn-nothing : (dialect : Dialect) (known : Option (List ℕ)) (reader : DialectReader) → WasGiven reader [] → reader.inner.dialect ≡ dialect
    → HasPassedOn dialect known known reader GRAPH.bytes
HasPassedOn-nothing dialect known reader none same = record { given = []; consumed = Consumes-nil known; fed = none; room = omega arith; same = same }

-- where the next piece is longer than is allowed, all that was given is more than there may be
pub given_many : (dialect : Dialect) (before between : Option (List ℕ)) (reader : DialectReader) (left : ℕ) (piece : List ℕ)
    (h : HasPassedOn dialect before between reader left) → left < length piece → GRAPH.bytes < length (h.given ++ piece)
given_many dialect before between reader left piece h many = omega (arith, h.room, length-append h.given piece)

-- a reader that was fed a piece within what is allowed was fed all that the source gave
pub HasPassedOn-more : (dialect : Dialect) (before between after : Option (List ℕ)) (reader then : DialectReader) (left : ℕ) (piece : List ℕ)
    → HasPassedOn dialect before between reader left → Consumes between after piece → length piece ≤ left
    → ((fed : List ℕ) → WasGiven reader fed → WasGiven then (fed ++ piece)) → then.inner.dialect ≡ reader.inner.dialect
    → HasPassedOn dialect before after then (left - length piece)
HasPassedOn-more dialect before between after reader then left piece h took few more same = record {
  given = h.given ++ piece;
  consumed = Consumes-trans before between after h.given piece h.consumed took;
  fed = more h.given h.fed;
  room = omega (arith, h.room, length-append h.given piece);
  same = same ∙ h.same;
}
