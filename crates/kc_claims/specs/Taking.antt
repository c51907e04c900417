-- What is kept while claims are taken one after another.
use Rattle.std.specs.Prelude.{◌≡◌, ◌≢◌, ◌<◌, ◌++◌, ℕ, Bool, false, true, List, [], ◌∷◌, length, slice_index_or, slice_set}
use Rattle.kc_graph.specs.Peeling.{at}
use Rattle.kc_claims.specs.declared.claim.Claim.{Claim}
use Rattle.kc_claims.specs.declared.taking.Taken.{Taken}
use Rattle.kc_claims.specs.Certificates.{TellFirst}

-- whether a vertex is marked
abbrev pub is_marked : List Bool → ℕ → Bool
is_marked named v = slice_index_or named v false

-- one claim more is taken: of this vertex, with its number and its rank
pub record IsTakenWith (before after : Taken) (v told place : ℕ) : Type 0 where
  pub order : after.order.items ≡ before.order.items ++ v ∷ []
  pub core : after.core.items ≡ slice_set before.core.items v told
  pub rank : after.rank.items ≡ slice_set before.rank.items v place
  pub named : after.named.items ≡ slice_set before.named.items v true

-- The first `n` claims are taken. They are of different vertices, and just these are marked.
pub record HasTaken (ids : List ℕ) (claims : List Claim) (n : ℕ) (taken : Taken) : Type 0 where
  pub one_number : length taken.core.items ≡ length ids
  pub one_rank : length taken.rank.items ≡ length ids
  pub one_mark : length taken.named.items ≡ length ids
  pub told : TellFirst ids claims n taken.order.items taken.core.items taken.rank.items
  pub marked : (i : ℕ) → i < n → is_marked taken.named.items (at taken.order.items i) ≡ true
  pub only : (v : ℕ) → v < length ids → is_marked taken.named.items v ≡ true → (i : ℕ) × (i < n) × (at taken.order.items i ≡ v)
  pub apart : (i j : ℕ) → i < j → j < n → at taken.order.items i ≢ at taken.order.items j

-- the id of the first vertex that is not marked
pub record IsUnmarkedFirst (ids : List ℕ) (named : List Bool) (id : ℕ) : Type 0 where
  pub vertex : ℕ
  pub within : vertex < length ids
  pub named_so : id ≡ at ids vertex
  pub unmarked : is_marked named vertex ≡ false
  pub before : (v : ℕ) → v < vertex → is_marked named v ≡ true
