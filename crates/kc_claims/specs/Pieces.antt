-- A text that comes in pieces, one after another, where a line may be broken off at the end of a piece alone.
use Rattle.std.specs.Prelude.{◌≡◌, ◌≤◌, ◌+◌, ◌++◌, ℕ, List, None, Option, Some, IfSome, length}
use Rattle.std.specs.List.Sorted.{IsStrictlyIncreasing}
use Rattle.kc_io.specs.LineEnds.{with_end}
use Rattle.kc_text.specs.Forms.{all_said}
use Rattle.kc_text.specs.declared.limits.TheConstants.Limits.{GRAPH}
use Rattle.kc_claims.specs.Certificates.{TellEach}
use Rattle.kc_claims.specs.Judging.{AreCounted, HasLookedFor}
use Rattle.kc_claims.specs.LineFaults.{first_line_fault, last_pair}
use Rattle.kc_claims.specs.declared.ascending.AscendingCheck.{AscendingCheck}
use Rattle.kc_claims.specs.declared.claim.Claim.{Claim}
use Rattle.kc_claims.specs.declared.fault.FaultyLine.{FaultyLine}

-- what is known of a text with one more piece, which begins a line
abbrev pub with_piece : Option (List ℕ) → Option (List ℕ) → Option (List ℕ)
with_piece None piece = None
with_piece (Some text) None = None
with_piece (Some text) (Some piece) = Some (with_end text ++ piece)

-- A piece comes behind a text of which no line is wrong, of a stream for these claims, and this is the first line of the piece that is. The number is
-- that of the line within the piece. The bytes of both are all of what is known of them.
pub record HasFaultyPiece (claims : List Claim) (before known : Option (List ℕ)) (faulty : FaultyLine) : Type 0 where
  pub text : List ℕ
  pub came : IfSome before (λ all. text ≡ all)
  pub piece : List ℕ
  pub read : IfSome known (λ all. piece ≡ all)
  pub ids : List ℕ
  pub order : List ℕ
  pub core : List ℕ
  pub rank : List ℕ
  pub ascending : IsStrictlyIncreasing ids
  pub told : TellEach ids claims order core rank
  pub clean : first_line_fault ids 0 None (all_said text) ≡ None
  pub first : first_line_fault ids 0 (last_pair None (all_said text)) (all_said piece) ≡ Some faulty

-- A check that has begun for these claims has taken a text, of which this is known, and no line of it is wrong. What it has room for is no more than
-- what the text leaves.
pub record HasTakenText (claims : List Claim) (known : Option (List ℕ)) (check : AscendingCheck) : Type 0 where
  pub order : List ℕ
  pub looked : HasLookedFor claims order check.insisting check.lines known
  pub room : length looked.insisted.fed.text + check.room ≤ GRAPH.bytes

-- a check has still what the claims tell
abbrev pub TellsClaims : List Claim → AscendingCheck → Type 0
TellsClaims claims check = (order : List ℕ) × AreCounted claims order check.insisting.sweep check.lines
