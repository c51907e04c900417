-- When claims are a certificate of the core numbers of a graph, and what shows that they are none.
use Rattle.std.specs.Prelude.{◌≡◌, ◌≢◌, ◌≤◌, ◌<◌, ◌&&◌, ℕ, false, true, List, None, length, count_by, slice_index_or, unwrap_or}
use Rattle.kc_lists.specs.Lists.{below, member}
use Rattle.kc_graph.specs.Certificate.{Enumerates}
use Rattle.kc_graph.specs.Core.{IsCoreNumber}
use Rattle.kc_graph.specs.Peeling.{as_high, at}
use Rattle.kc_graph.specs.SimpleGraph.{SimpleGraph, adjacent}
use Rattle.kc_tally.specs.Keys.{has_lesser_key}
use Rattle.kc_claims.specs.declared.claim.Claim.{Claim}
use Rattle.kc_claims.specs.declared.fault.ClaimFault.{ClaimFault}
use Rattle.kc_claims.specs.declared.fault.ClaimFault.TheVariants.{Unknown, Repeated, Missing, ManyLater, FewSupporters}

-- the id that is at fault
abbrev pub id_of : ClaimFault → ℕ
id_of (Unknown claim) = claim.id
id_of (Repeated claim) = claim.id
id_of (Missing id) = id
id_of (ManyLater claim count) = claim.id
id_of (FewSupporters claim count) = claim.id

-- the claim at a place
abbrev pub claim_at : List Claim → ℕ → Claim
claim_at claims i = slice_index_or claims i (record { line = 0; id = 0; number = 0; rank = None })

-- the rank of a claim: the one that it tells, and else its place
abbrev pub rank_in : ℕ → Claim → ℕ
rank_in place claim = unwrap_or claim.rank place

-- how many neighbours of `v` have a greater key: they stand behind it
abbrev pub later_neighbours : SimpleGraph → List ℕ → List ℕ → ℕ → ℕ
later_neighbours g core rank v = count_by (λ w. adjacent g v w && has_lesser_key core rank v w) (below g.size)

-- how many neighbours of `v` have its core number or more
abbrev pub supporters : SimpleGraph → List ℕ → ℕ → ℕ
supporters g core v = as_high g core (at core v) v

-- What the first `n` claims tell: `order` has the vertices of their ids, and at each of these is its number and its rank.
pub record TellFirst (ids : List ℕ) (claims : List Claim) (n : ℕ) (order core rank : List ℕ) : Type 0 where
  pub one_each : length order ≡ n
  pub vertices : (i : ℕ) → i < n → at order i < length ids
  pub named : (i : ℕ) → i < n → at ids (at order i) ≡ (claim_at claims i).id
  pub numbers : (i : ℕ) → i < n → at core (at order i) ≡ (claim_at claims i).number
  pub ranks : (i : ℕ) → i < n → at rank (at order i) ≡ rank_in i (claim_at claims i)

-- The claims name each id just once, and so they tell each vertex a number and a rank; `order` has the vertices as the lines do.
pub record TellEach (ids : List ℕ) (claims : List Claim) (order core rank : List ℕ) : Type 0 where
  pub one_number : length core ≡ length ids
  pub one_rank : length rank ≡ length ids
  pub all : TellFirst ids claims (length claims) order core rank
  pub enumerates : Enumerates (length ids) order

-- a vertex has at most as many later neighbours as its number, and at least as many supporters
pub record IsBetween (g : SimpleGraph) (core rank : List ℕ) (v : ℕ) : Type 0 where
  pub few_later : later_neighbours g core rank v ≤ at core v
  pub supported : at core v ≤ supporters g core v

-- The claims are a certificate of the core numbers of the graph whose vertices stand for these ids.
pub record AreCertificate (ids : List ℕ) (g : SimpleGraph) (claims : List Claim) : Type 0 where
  pub order : List ℕ
  pub core : List ℕ
  pub rank : List ℕ
  pub told : TellEach ids claims order core rank
  pub between : (v : ℕ) → v < g.size → IsBetween g core rank v

-- each claim tells its id the core number of the vertex that stands for it
abbrev pub TellCoreNumbers : List ℕ → SimpleGraph → List Claim → Type 0
TellCoreNumbers ids g claims =
    (i : ℕ) → i < length claims → (v : ℕ) × (v < g.size) × (at ids v ≡ (claim_at claims i).id) × IsCoreNumber g v (claim_at claims i).number

-- each of the first `n` claims is of an id, and no two are of the same
pub record NameOnce (ids : List ℕ) (claims : List Claim) (n : ℕ) : Type 0 where
  pub known : (i : ℕ) → i < n → member (claim_at claims i).id ids ≡ true
  pub once : (i j : ℕ) → i < j → j < n → (claim_at claims i).id ≢ (claim_at claims j).id

-- the claim is of no id, and all before it are of one each
pub record IsUnknown (ids : List ℕ) (claims : List Claim) (claim : Claim) : Type 0 where
  pub place : ℕ
  pub within : place < length claims
  pub is : claim ≡ claim_at claims place
  pub unknown : member claim.id ids ≡ false
  pub before : NameOnce ids claims place

-- the claim is of the id of an earlier one, and all before it are of one each
pub record IsRepeated (ids : List ℕ) (claims : List Claim) (claim : Claim) : Type 0 where
  pub place : ℕ
  pub within : place < length claims
  pub is : claim ≡ claim_at claims place
  pub earlier : ℕ
  pub stands_before : earlier < place
  pub same : (claim_at claims earlier).id ≡ claim.id
  pub before : NameOnce ids claims place

-- no claim is of this id, the least such one, and all are of one each
pub record IsMissing (ids : List ℕ) (claims : List Claim) (id : ℕ) : Type 0 where
  pub known : member id ids ≡ true
  pub missing : (i : ℕ) → i < length claims → (claim_at claims i).id ≢ id
  pub least : (other : ℕ) → member other ids ≡ true → other < id → (i : ℕ) × (i < length claims) × ((claim_at claims i).id ≡ other)
  pub all : NameOnce ids claims (length claims)

-- The claims name each id just once. This one's vertex has so many later neighbours and so many supporters, and all before it are between.
pub record IsMiscounted (ids : List ℕ) (g : SimpleGraph) (claims : List Claim) (claim : Claim) (later supporting : ℕ) : Type 0 where
  pub order : List ℕ
  pub core : List ℕ
  pub rank : List ℕ
  pub told : TellEach ids claims order core rank
  pub place : ℕ
  pub within : place < length claims
  pub is : claim ≡ claim_at claims place
  pub later_counted : later ≡ later_neighbours g core rank (at order place)
  pub supporters_counted : supporting ≡ supporters g core (at order place)
  pub before : (i : ℕ) → i < place → IsBetween g core rank (at order i)

-- the fault is the first that shows that the claims are no certificate
abbrev pub IsFirstFault : List ℕ → SimpleGraph → List Claim → ClaimFault → Type 0
IsFirstFault ids g claims (Unknown claim) = IsUnknown ids claims claim
IsFirstFault ids g claims (Repeated claim) = IsRepeated ids claims claim
IsFirstFault ids g claims (Missing id) = IsMissing ids claims id
IsFirstFault ids g claims (ManyLater claim count) = (supporting : ℕ) × IsMiscounted ids g claims claim count supporting × (claim.number < count)
IsFirstFault ids g claims (FewSupporters claim count) =
    (later : ℕ) × IsMiscounted ids g claims claim later count × (later ≤ claim.number) × (count < claim.number)
