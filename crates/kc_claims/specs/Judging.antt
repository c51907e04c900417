-- What claims tell vertices, where they stand, and which of them the counts show to be wrong.
use Rattle.std.specs.Prelude.{◌≡◌, ◌≤◌, ◌<◌, ◌^◌, ◌&&◌, ◌||◌, ℕ, Bool, List, None, Option, Some, false, length, nat_eq, nat_lt, true, ⊤}
use Rattle.kc_graph.specs.Peeling.{at}
use Rattle.kc_claims.specs.Certificates.{TellEach}
use Rattle.kc_claims.specs.Insisting.{HasInsistedFor}
use Rattle.kc_claims.specs.Placing.{AreVertices}
use Rattle.kc_claims.specs.Stretches.{AreStretched}
use Rattle.kc_claims.specs.Sweeping.{HasBegunFor}
use Rattle.kc_claims.specs.Tables.{AreColumns, AreIdsOf}
use Rattle.kc_claims.specs.declared.claim.Claim.{Claim}
use Rattle.kc_claims.specs.declared.claimed.ClaimLines.{ClaimLines}
use Rattle.kc_claims.specs.declared.claimed.ClaimPlaces.{ClaimPlaces}
use Rattle.kc_claims.specs.declared.claimed.ClaimPlaces.TheVariants.{AsIds, AsRanks, Column}
use Rattle.kc_claims.specs.declared.claimed.Claimed.{Claimed}
use Rattle.kc_claims.specs.declared.claimed.Spread.{Spread}
use Rattle.kc_claims.specs.declared.insisting.Insisting.{Insisting}
use Rattle.kc_claims.specs.declared.judging.Wrong.{Wrong}
use Rattle.kc_claims.specs.declared.judging.Wrong.TheVariants.{Miscounted, Uncounted}
use Rattle.kc_claims.specs.declared.sweep.Sweep.{Sweep}
use Rattle.kc_claims.specs.declared.table.ClaimTable.{ClaimTable}

-- the place of the claim of a vertex: the vertex itself, or its rank, or what the column has
abbrev pub claim_place : ClaimPlaces → List ℕ → ℕ → ℕ
claim_place AsIds rank v = v
claim_place AsRanks rank v = at rank v
claim_place (Column places) rank v = at places.items v

-- the column, if there is one, has a place for each of so many vertices
abbrev pub HasPlaces : ClaimPlaces → ℕ → Type 0
HasPlaces AsIds n = ⊤
HasPlaces AsRanks n = ⊤
HasPlaces (Column places) n = length places.items ≡ n

-- the claims whose vertices come in this order, and have these ranks, stand at these places
pub record TellPlaces (order rank : List ℕ) (places : ClaimPlaces) : Type 0 where
  pub each : HasPlaces places (length order)
  pub place : (i : ℕ) → i < length order → claim_place places rank (at order i) ≡ i

-- what stood in this order of vertices stands by the vertices now
abbrev pub AreMoved : List ℕ → List ℕ → List ℕ → Type 0
AreMoved order column moved = (i : ℕ) → i < length order → at moved (at order i) ≡ at column i

-- the lines have for each vertex where its claim stands, and whether that tells the rank
pub record TellLines (claims : List Claim) (order rank : List ℕ) (lines : ClaimLines) : Type 0 where
  pub places : TellPlaces order rank lines.places
  pub stretched : AreStretched claims lines.stretches.items

-- the column of ids has their vertices now, and the others have what the claims tell
pub record AreSpread (ids : List ℕ) (claims : List Claim) (table : ClaimTable) : Type 0 where
  pub column : List ℕ
  pub told : AreIdsOf claims column
  pub placed : AreVertices ids column table.ids.items
  pub columns : AreColumns claims table.numbers.items table.ranks.items table.stretches.items

-- the claims tell the vertices this
pub record IsSpread (ids : List ℕ) (claims : List Claim) (order : List ℕ) (spread : Spread) : Type 0 where
  pub told : TellEach ids claims order spread.core.items spread.rank.items
  pub lines : TellLines claims order spread.rank.items spread.lines

-- a sweep has begun for what the claims tell, whose vertices stand in this order, and the lines are theirs
pub record AreClaimed (claims : List Claim) (order : List ℕ) (claimed : Claimed) : Type 0 where
  pub begun : HasBegunFor claims order claimed.sweep
  pub lines : TellLines claims order claimed.sweep.rank.items claimed.lines

-- all bytes of a stream were looked at, from where a sweep had begun for what the claims tell, and the lines are theirs
pub record HasLookedFor (claims : List Claim) (order : List ℕ) (now : Insisting) (lines : ClaimLines) (known : Option (List ℕ)) : Type 0 where
  pub insisted : HasInsistedFor claims order now known
  pub stand : TellLines claims order insisted.sweep.rank.items lines

-- the sweep has what the claims tell, a count of each kind for each vertex, and the lines are theirs
pub record AreCounted (claims : List Claim) (order : List ℕ) (sweep : Sweep) (lines : ClaimLines) : Type 0 where
  pub told : TellEach sweep.ids.items claims order sweep.core.items sweep.rank.items
  pub stand : TellLines claims order sweep.rank.items lines
  pub later_each : length sweep.later.items ≡ length sweep.core.items
  pub supporters_each : length sweep.supporters.items ≡ length sweep.core.items

-- each vertex has a rank, a place and a count of each kind
pub record HasEach (sweep : Sweep) (places : ClaimPlaces) : Type 0 where
  pub few : length sweep.core.items ≤ 2 ^ 32
  pub ranks : length sweep.rank.items ≡ length sweep.core.items
  pub placed : HasPlaces places (length sweep.core.items)
  pub later : length sweep.later.items ≡ length sweep.core.items
  pub supporters : length sweep.supporters.items ≡ length sweep.core.items

-- whether a number does not lie between the counts, or nothing is counted
abbrev pub is_wrong : Wrong → ℕ → ℕ → ℕ → Bool
is_wrong Miscounted core later supporters = nat_lt core later || nat_lt supporters core
is_wrong Uncounted core later supporters = nat_eq later 0 && nat_eq supporters 0

-- whether that is so of a vertex
abbrev pub is_wrong_at : Wrong → Sweep → ℕ → Bool
is_wrong_at wrong sweep v = is_wrong wrong (at sweep.core.items v) (at sweep.later.items v) (at sweep.supporters.items v)

-- whether the claim of a vertex stands before that of another, if there is one
abbrev pub is_earlier : ClaimPlaces → List ℕ → ℕ → Option ℕ → Bool
is_earlier places rank v None = true
is_earlier places rank v (Some u) = nat_lt (claim_place places rank v) (claim_place places rank u)

-- of the first `n` vertices this one is wrong, and of those that are, its claim is the first; or none is wrong
abbrev pub IsFirstWrong : Wrong → Sweep → ClaimPlaces → ℕ → Option ℕ → Type 0
IsFirstWrong wrong sweep places n None = (u : ℕ) → u < n → is_wrong_at wrong sweep u ≡ false
IsFirstWrong wrong sweep places n (Some v) =
    (v < n) × (is_wrong_at wrong sweep v ≡ true)
    × ((u : ℕ) → u < n → is_wrong_at wrong sweep u ≡ true → claim_place places sweep.rank.items v ≤ claim_place places sweep.rank.items u)
