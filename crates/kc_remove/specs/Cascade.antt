-- The vertices that fall one after another once an edge is gone: what the search for them keeps true.
use Rattle.std.specs.Prelude.{◌≡◌, ◌≢◌, ◌≤◌, ◌<◌, ◌+◌, ◌⊎◌, ℕ, Bool, true, false, not, ◌&&◌, List, take, length, slice_index, nat_le, if◌then◌else◌}
use Rattle.kc_lists.specs.Lists.{member, Distinct}
use Rattle.kc_view.specs.Search.{Search, among, after, OnLevel}

-- What is known of the state before, in the graph after the edge was removed. `is_end` tells the two ends of the edge.
pub record Thinned (s : Search) (is_end : ℕ → Bool) : Type 0 where
  pub symmetric : (x y : ℕ) → s.adj x y ≡ s.adj y x
  pub rising : (x y : ℕ) → x < s.size → y < s.size → s.core x < s.core y → s.rank x < s.rank y
  pub some_level : 0 < s.level
  pub few : (z : ℕ) → z < s.size → among s z (after s z) ≤ s.core z
  pub enough : (z : ℕ) → z < s.size → (s.core z ≢ s.level) ⊎ (is_end z ≡ false) → s.core z ≤ among s z (λ y. nat_le (s.core z) (s.core y))
  pub nearly : (z : ℕ) → OnLevel s z → s.level ≤ among s z (λ y. nat_le s.level (s.core y)) + 1

-- how many neighbours of `z` have the level's core number or a greater one and are not among `gone`
abbrev pub support : Search → List ℕ → ℕ → ℕ
support s gone z = among s z (λ y. nat_le s.level (s.core y) && not (member y gone))

-- how many of these were found among the neighbours that were looked at
abbrev pub found : Search → (ℕ → Bool) → List ℕ → ℕ → ℕ
found s looked gone z = among s z (λ y. looked y && (nat_le s.level (s.core y) && not (member y gone)))

-- How many of the fallen are gone for `y`: those whose turns are done, also the present one where it has come to `y`.
abbrev pub taken : (ℕ → Bool) → ℕ → ℕ → ℕ
taken part turn y = if part y then turn + 1 else turn

-- `fall` are the fallen so far, and `turn` of them are done. `part` tells to which neighbours the present turn has come. `looked` tells
-- at which of its neighbours a vertex has looked, and `sup` how many of those support it. `is_open` is a vertex that may be too weak and
-- not listed yet.
pub record Cascade (s : Search) (fall : List ℕ) (turn : ℕ) (part visited : ℕ → Bool) (sup : ℕ → ℕ) (looked : ℕ → ℕ → Bool) (is_open : ℕ → Bool) : Type 0 where
  pub fall_level : (x : ℕ) → member x fall ≡ true → OnLevel s x
  pub fall_visited : (x : ℕ) → member x fall ≡ true → visited x ≡ true
  pub distinct : Distinct fall
  -- each had too little support where it was put on the list
  pub weak : (j : ℕ) → j < length fall → support s (take j fall) (slice_index fall j) < s.level
  pub exact : (y : ℕ) → visited y ≡ true → member y fall ≡ false → sup y ≡ found s (looked y) (take (taken part turn y) fall) y
  pub strong : (y : ℕ) → visited y ≡ true → member y fall ≡ false → is_open y ≡ false → s.level ≤ sup y
  pub visited_level : (y : ℕ) → visited y ≡ true → OnLevel s y
  pub turn_in : turn ≤ length fall
  pub part_in : (y : ℕ) → part y ≡ true → (turn < length fall) × (s.adj (slice_index fall turn) y ≡ true)
  pub part_visited : (y : ℕ) → part y ≡ true → OnLevel s y → visited y ≡ true
  -- each neighbour of the level of one whose turn is done was visited
  pub done : (x y : ℕ) → member x (take turn fall) ≡ true → OnLevel s y → s.adj x y ≡ true → visited y ≡ true

-- a test that no vertex passes
abbrev pub nobody : ℕ → Bool
nobody y = false
