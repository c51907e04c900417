-- What the search for an order keeps true, where the core numbers are known.
use Rattle.std.specs.Prelude.{◌≡◌, ◌<◌, ◌+◌, ◌&&◌, ◌++◌, ◌∷◌, [], max, ℕ, true, false, List, length, nat_eq, nat_lt, if◌then◌else◌}
use Rattle.std.specs.List.{filter}
use Rattle.kc_lists.specs.Lists.{member, Distinct}
use Rattle.kc_graph.specs.SimpleGraph.{SimpleGraph}
use Rattle.kc_graph.specs.Rows.{row}
use Rattle.kc_graph.specs.Peeling.{at, remaining, IsPeeledTo}

-- The number left of a vertex is how many neighbours it has left, or its core number where that is more. A vertex that is left, and has no
-- more neighbours left than its core number, waits in the row of that number.
pub record Waits (g : SimpleGraph) (core left taken : List ℕ) (waiting : List (List ℕ)) : Type 0 where
  pub one_each : length left ≡ g.size
  pub counted : (v : ℕ) → v < g.size → at left v ≡ max (remaining g taken v) (at core v)
  pub gone : (v : ℕ) → member v taken ≡ true → at left v ≡ at core v
  pub waits : (v : ℕ) → v < g.size → member v taken ≡ false → at left v ≡ at core v → member v (row waiting (at core v)) ≡ true
  pub fits : (b v : ℕ) → member v (row waiting b) ≡ true → (v < g.size) × (at core v ≡ b) × (at left v ≡ at core v) × (member v taken ≡ false)
  pub once : (b : ℕ) → Distinct (row waiting b)

-- Vertices of the levels below have been taken, and some of this level, each with few neighbours left.
pub record Orders (g : SimpleGraph) (core : List ℕ) (level : ℕ) (left taken : List ℕ) (waiting : List (List ℕ)) : Type 0 where
  pub peeled : IsPeeledTo g level core taken
  pub rest : Waits g core left taken waiting

-- `v`, whose core number is `level`, has come out of its row, and is about to be taken.
pub record IsNext (g : SimpleGraph) (core : List ℕ) (level v : ℕ) (left taken : List ℕ) (waiting : List (List ℕ)) : Type 0 where
  pub peeled : IsPeeledTo g level core taken
  pub vertex : v < g.size
  pub here : at core v ≡ level
  pub few : at left v ≡ at core v
  pub untaken : member v taken ≡ false
  pub before : List (List ℕ)
  pub rest : Waits g core left taken before
  pub popped : row before level ≡ row waiting level ++ v ∷ []
  pub others : (b : ℕ) → (b ≡ level → ⊥) → row before b ≡ row waiting b

-- Each of `ws` with more neighbours left than its core number has lost one, and waits once it has no more.
pub record Released (core ws left : List ℕ) (waiting : List (List ℕ)) (left' : List ℕ) (waiting' : List (List ℕ)) : Type 0 where
  pub one_each : length left' ≡ length left
  pub one_row : length waiting' ≡ length waiting
  pub lowered : (u : ℕ) → at left u ≡ at left' u + (if member u ws && nat_lt (at core u) (at left u) then 1 else 0)
  pub filed : (b : ℕ) → row waiting' b ≡ row waiting b ++ filter (λ w. nat_eq (at core w) b && nat_eq (at left w) (b + 1)) ws

-- Each of the first `n` vertices that has no more neighbours than its core number stands once in the row of that number, and no other does.
pub record Sorted (core left : List ℕ) (n : ℕ) (waiting : List (List ℕ)) : Type 0 where
  pub waits : (v : ℕ) → v < n → at left v ≡ at core v → member v (row waiting (at core v)) ≡ true
  pub fits : (b v : ℕ) → member v (row waiting b) ≡ true → (v < n) × (at core v ≡ b) × (at left v ≡ at core v)
  pub once : (b : ℕ) → Distinct (row waiting b)
