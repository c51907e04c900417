-- The first line that is wrong in a stream whose edges are to ascend between ids that are claimed.
use Rattle.std.specs.Prelude.{◌≡◌, ◌+◌, ◌&&◌, ◌||◌, ℕ, Bool, List, [], ◌∷◌, Option, None, Some, IfSome, nat_eq, nat_lt, if◌then◌else◌}
use Rattle.std.specs.List.Sorted.{IsStrictlyIncreasing}
use Rattle.kc_lists.specs.Lists.{member}
use Rattle.kc_text.specs.Forms.{all_said}
use Rattle.kc_text.specs.declared.kind.Kind.TheVariants.{TooManyBatches, UpdateOutsideBatch}
use Rattle.kc_text.specs.declared.line.TextLine.{TextLine}
use Rattle.kc_text.specs.declared.line.TextLine.TheVariants.{Nothing, Edge, Batch, Change, Wrong}
use Rattle.kc_claims.specs.Certificates.{TellEach}
use Rattle.kc_claims.specs.declared.claim.Claim.{Claim}
use Rattle.kc_claims.specs.declared.fault.FaultyLine.{FaultyLine}
use Rattle.kc_claims.specs.declared.fault.LineFault.{LineFault}
use Rattle.kc_claims.specs.declared.fault.LineFault.TheVariants.{Refused, Descends, Unclaimed}

-- whether a pair has its lesser id first and is above the one before it, if there is one: by first ids, and then by second ones
abbrev pub ascends : Option (ℕ × ℕ) → ℕ → ℕ → Bool
ascends None a b = nat_lt a b
ascends (Some last) a b = nat_lt a b && (nat_lt last.0 a || (nat_eq last.0 a && nat_lt last.1 b))

-- what is wrong with a pair, by the ids that are claimed and the pair before it
abbrev pub pair_fault : List ℕ → Option (ℕ × ℕ) → ℕ → ℕ → Option LineFault
pair_fault ids before a b =
    if ascends before a b
    then (if member a ids then (if member b ids then None else Some (Unclaimed b)) else Some (Unclaimed a)) else Some Descends

-- what is wrong with a line, by the ids that are claimed and the pair before it
abbrev pub line_fault : List ℕ → Option (ℕ × ℕ) → TextLine → Option LineFault
line_fault ids before Nothing = None
line_fault ids before (Edge a b) = pair_fault ids before a b
line_fault ids before Batch = Some (Refused TooManyBatches)
line_fault ids before (Change c) = Some (Refused UpdateOutsideBatch)
line_fault ids before (Wrong kind) = Some (Refused kind)

-- the last pair, once a line has come behind this one
abbrev pub pair_after : Option (ℕ × ℕ) → TextLine → Option (ℕ × ℕ)
pair_after before Nothing = before
pair_after before (Edge a b) = Some (a, b)
pair_after before Batch = before
pair_after before (Change c) = before
pair_after before (Wrong kind) = before

-- the last pair of lines, or the one before them
abbrev pub last_pair : Option (ℕ × ℕ) → List TextLine → Option (ℕ × ℕ)
last_pair before [] = before
last_pair before (line ∷ rest) = last_pair (pair_after before line) rest

-- the line with this number where something is wrong with it, or else what the others give
abbrev pub fault_or : ℕ → Option LineFault → Option FaultyLine → Option FaultyLine
fault_or line None rest = rest
fault_or line (Some fault) rest = Some (record { line = line; fault = fault })

-- the first of lines that is wrong, behind so many others of which this pair was the last
abbrev pub first_line_fault : List ℕ → ℕ → Option (ℕ × ℕ) → List TextLine → Option FaultyLine
first_line_fault ids done before [] = None
first_line_fault ids done before (line ∷ rest) =
    fault_or (done + 1) (line_fault ids before line) (first_line_fault ids (done + 1) (pair_after before line) rest)

-- The bytes, which are all of what is known of them, are of a stream for these claims. They name each of the ids just once, and no other id; and
-- this is the first line that is wrong.
pub record HasFaultyLine (claims : List Claim) (known : Option (List ℕ)) (faulty : FaultyLine) : Type 0 where
  pub text : List ℕ
  pub read : IfSome known (λ all. text ≡ all)
  pub ids : List ℕ
  pub order : List ℕ
  pub core : List ℕ
  pub rank : List ℕ
  pub ascending : IsStrictlyIncreasing ids
  pub told : TellEach ids claims order core rank
  pub first : first_line_fault ids 0 None (all_said text) ≡ Some faulty
