-- Claims in columns, and in stretches where they stand.
use Rattle.std.specs.Prelude.{◌≡◌, ◌≤◌, ◌<◌, ℕ, List, Ok, Err, Option, IfSome, length, unwrap_or}
use Rattle.kc_graph.specs.Peeling.{at}
use Rattle.kc_text.specs.declared.limits.TheConstants.Limits.{GRAPH}
use Rattle.kc_text.specs.declared.refusal.Refusal.{Refusal}
use Rattle.kc_claims.specs.Certificates.{claim_at, rank_in}
use Rattle.kc_claims.specs.Claims.{claims_of}
use Rattle.kc_claims.specs.Stretches.{AreStretched}
use Rattle.kc_claims.specs.declared.claim.Claim.{Claim}
use Rattle.kc_claims.specs.declared.stretch.Stretch.{Stretch}
use Rattle.kc_claims.specs.declared.table.ClaimTable.{ClaimTable}

-- the rank that is told, or else a place
abbrev pub short_rank : ℕ → Option ℕ → ℕ
short_rank place rank = unwrap_or rank place

-- these columns and stretches have what the claims tell but their ids
pub record AreColumns (claims : List Claim) (numbers ranks : List ℕ) (stretches : List Stretch) : Type 0 where
  pub numbers_each : length numbers ≡ length claims
  pub ranks_each : length ranks ≡ length claims
  pub number : (i : ℕ) → i < length claims → at numbers i ≡ (claim_at claims i).number
  pub rank : (i : ℕ) → i < length claims → at ranks i ≡ rank_in i (claim_at claims i)
  pub stretched : AreStretched claims stretches

-- a column has the ids of the claims
pub record AreIdsOf (claims : List Claim) (ids : List ℕ) : Type 0 where
  pub ids_each : length ids ≡ length claims
  pub id : (i : ℕ) → i < length claims → at ids i ≡ (claim_at claims i).id

-- the table has the claims in their order
pub record AreTabled (claims : List Claim) (table : ClaimTable) : Type 0 where
  pub ids : AreIdsOf claims table.ids.items
  pub columns : AreColumns claims table.numbers.items table.ranks.items table.stretches.items

-- The bytes, which are all of what is known of them, are a text of claims, and the table has these.
pub record HoldsClaims (known : Option (List ℕ)) (claims : List Claim) (table : ClaimTable) : Type 0 where
  pub text : List ℕ
  pub read : IfSome known (λ all. text ≡ all)
  pub few : length text ≤ GRAPH.bytes
  pub means : claims_of text ≡ Ok claims
  pub tabled : AreTabled claims table

-- The bytes, which are all of what is known of them, are a text of which this line is refused.
pub record HasRefusedClaim (known : Option (List ℕ)) (refusal : Refusal) : Type 0 where
  pub text : List ℕ
  pub read : IfSome known (λ all. text ≡ all)
  pub few : length text ≤ GRAPH.bytes
  pub means : claims_of text ≡ Err refusal
