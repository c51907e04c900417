-- The vertices of ids that stand in some order.
use Rattle.std.specs.Prelude.{◌≡◌, ◌≢◌, ◌≤◌, ◌<◌, ℕ, Bool, List, length, true}
use Rattle.kc_graph.specs.Certificate.{Enumerates}
use Rattle.kc_graph.specs.Peeling.{at}
use Rattle.kc_claims.specs.Taking.{is_marked}

-- In a column of ids the first `n` have their vertices now, which are different ones; just these are marked, and the others are as they were.
pub record HasPlaced (ids column : List ℕ) (n : ℕ) (now : List ℕ) (named : List Bool) : Type 0 where
  pub one_each : length now ≡ length column
  pub one_mark : length named ≡ length ids
  pub vertices : (i : ℕ) → i < n → at now i < length ids
  pub named_so : (i : ℕ) → i < n → at ids (at now i) ≡ at column i
  pub others : (i : ℕ) → n ≤ i → at now i ≡ at column i
  pub marked : (i : ℕ) → i < n → is_marked named (at now i) ≡ true
  pub only : (v : ℕ) → v < length ids → is_marked named v ≡ true → (i : ℕ) × (i < n) × (at now i ≡ v)
  pub apart : (i j : ℕ) → i < j → j < n → at now i ≢ at now j

-- a column has for each id its vertex, and each vertex once
pub record AreVertices (ids column order : List ℕ) : Type 0 where
  pub one_each : length order ≡ length column
  pub one_id : length ids ≡ length column
  pub vertices : (i : ℕ) → i < length column → at order i < length ids
  pub named_so : (i : ℕ) → i < length column → at ids (at order i) ≡ at column i
  pub apart : (i j : ℕ) → i < j → j < length column → at order i ≢ at order j
  pub enumerates : Enumerates (length ids) order

-- the id at this place is one of those before it, which are different ones
pub record IsSecond (column : List ℕ) (place : ℕ) : Type 0 where
  pub within : place < length column
  pub earlier : ℕ
  pub stands_before : earlier < place
  pub same : at column earlier ≡ at column place
  pub apart : (i j : ℕ) → i < j → j < place → at column i ≢ at column j

-- each entry of a column is its own place
abbrev pub AreOwnPlaces : List ℕ → Type 0
AreOwnPlaces column = (i : ℕ) → i < length column → at column i ≡ i
