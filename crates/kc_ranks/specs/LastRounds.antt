-- The last round that changed the number of a vertex.
use Rattle.std.specs.Prelude.{◌≡◌, ◌≢◌, ◌≤◌, ◌<◌, ℕ, suc, List, length, slice_index}
use Rattle.kc_graph.specs.SimpleGraph.{SimpleGraph}
use Rattle.kc_hindex.specs.Rounds.{after_rounds}

-- After as many rounds as its rank, a vertex has the number `core`, and after fewer it has a greater one: where no round changes its degree, the
-- rank is 0.
pub record AreLastRounds (g : SimpleGraph) (core rank : List ℕ) : Type 0 where
  pub one_each : length rank ≡ g.size
  pub reached : (v : ℕ) → v < g.size → after_rounds g (slice_index rank v) v ≡ slice_index core v
  pub greater_before : (v r : ℕ) → v < g.size → r < slice_index rank v → slice_index core v < after_rounds g r v

-- Of lists of numbers, one for each round, the rank of each vertex is the last place, up to `last`, whose list has another number for it than
-- the list before; or 0 where none has.
pub record AreLastChanges (numbers : ℕ → List ℕ) (last : ℕ) (rank : List ℕ) : Type 0 where
  pub one_each : length rank ≡ length (numbers last)
  pub within : (v : ℕ) → v < length rank → slice_index rank v ≤ last
  pub same_since : (v : ℕ) → v < length rank → slice_index (numbers (slice_index rank v)) v ≡ slice_index (numbers last) v
  pub changed : (v r : ℕ) → v < length rank → slice_index rank v ≡ suc r → slice_index (numbers (suc r)) v ≢ slice_index (numbers r) v
