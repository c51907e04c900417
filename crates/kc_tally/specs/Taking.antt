-- What is kept while the vertices of a layer are taken.
use Rattle.std.specs.Prelude.{◌≡◌, ◌≤◌, ◌<◌, ◌+◌, ℕ, Bool, true, ◌&&◌, ◌==◌, List, ◌++◌, length, filter, count_by, if◌then◌else◌}
use Rattle.kc_lists.specs.Lists.{member, Distinct}
use Rattle.kc_graph.specs.SimpleGraph.{SimpleGraph, adjacent}
use Rattle.kc_graph.specs.Peeling.{at}

-- whether two vertices are neighbours on one level
abbrev pub are_beside : SimpleGraph → List ℕ → ℕ → ℕ → Bool
are_beside g core v w = adjacent g v w && at core v == at core w

-- Each of `ws` on the level has lost one. Those that had one more than the level stand at the end of the next layer.
pub record LetGo (core : List ℕ) (level : ℕ) (ws left next left' next' : List ℕ) : Type 0 where
  pub one_each : length left' ≡ length left
  pub lowered : (u : ℕ) → at left u ≡ at left' u + (if member u ws && at core u == level then 1 else 0)
  pub joined : next' ≡ next ++ filter (λ w. at core w == level && at left w == level + 1) ws

-- Each vertex has lost its neighbours on its level that are taken. The next layer has those that had more left than their number and now have
-- no more, each once.
pub record TakesLayer (g : SimpleGraph) (core taken left left' next : List ℕ) : Type 0 where
  pub one_each : length left' ≡ length left
  pub lost : (v : ℕ) → v < g.size → at left' v + count_by (are_beside g core v) taken ≡ at left v
  pub fewer : (v : ℕ) → at left' v ≤ at left v
  pub dropped : (v : ℕ) → member v next ≡ true → (at core v < at left v) × (at left' v ≤ at core v)
  pub all : (v : ℕ) → at core v < at left v → at left' v ≤ at core v → member v next ≡ true
  pub once : Distinct next

-- the first layer: each vertex that has no more left than its number, once
pub record IsFirstLayer (core left layer : List ℕ) (n : ℕ) : Type 0 where
  pub within : (v : ℕ) → member v layer ≡ true → (v < n) × (at left v ≤ at core v)
  pub all : (v : ℕ) → v < n → at left v ≤ at core v → member v layer ≡ true
  pub once : Distinct layer
