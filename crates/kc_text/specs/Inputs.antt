-- The input that a text gives: the ids in order, and the edges between the numbers that stand for them.
use Rattle.std.specs.Prelude.{◌≡◌, ◌≢◌, ◌<◌, ℕ, Bool, true, List, Option, Some, None, length, map, min, max, All, AllPairs, nat_eq, nat_lt, if◌then◌else◌}
use Rattle.std.specs.List.{filter_map, position_or_len}
use Rattle.std.specs.List.Sorted.{IsStrictlyIncreasing, IsStrictlySortedBy}
use Rattle.std.specs.Set.{is_member}
use Rattle.std.specs.FinSet as set
use Rattle.kc_graph.specs.SimpleGraph.{SimpleGraph, pair_cmp}
use Rattle.kc_text.specs.declared.batch.Batch.{Batch}
use Rattle.kc_text.specs.declared.input.Input.{Input}
use Rattle.kc_text.specs.declared.named_edges.NamedEdges.{NamedEdges}
use Rattle.kc_graph.specs.declared.update.Update.{Update}
use Rattle.kc_text.specs.declared.change.ChangeLine as change
use Rattle.kc_text.specs.Meaning.{Told, batches, names}
use Rattle.kc_text.specs.Overruling.{deciding, overruled}

-- the names in ascending order, each once
pub record AreIds (named : List ℕ) (ids : List ℕ) : Type 0 where
  pub ascending : IsStrictlyIncreasing ids
  pub exact : (id : ℕ) → is_member nat_eq ids id ≡ is_member nat_eq named id

-- each name is an id
abbrev pub AreAmong : List ℕ → List ℕ → Type 0
AreAmong ids named = (id : ℕ) → is_member nat_eq named id ≡ true → is_member nat_eq ids id ≡ true

-- the number that stands for an id: its place among the ids
abbrev pub place : List ℕ → ℕ → ℕ
place ids id = position_or_len (nat_eq id) ids

-- the pair with the lesser number first, and none for a loop
abbrev pub between : ℕ → ℕ → Option (ℕ × ℕ)
between u v = if nat_lt u v then Some (u, v) else if nat_lt v u then Some (v, u) else None

-- the edge between the numbers that stand for two ids
abbrev pub numbered : List ℕ → ℕ × ℕ → Option (ℕ × ℕ)
numbered ids e = between (place ids e.0) (place ids e.1)

-- the graph of edges between ids: it has no loops, and each edge once in one direction
unfoldable pub start_graph : List ℕ → List (ℕ × ℕ) → SimpleGraph
start_graph ids edges = record { size = length ids; edges = set.from_list (filter_map (numbered ids) edges) }

-- the pairs of a graph's edges, in ascending order
pub record AreEdges (g : SimpleGraph) (pairs : List (ℕ × ℕ)) : Type 0 where
  pub ascending : IsStrictlySortedBy pair_cmp pairs
  pub within : All (λ p. (p.0 < p.1) × (p.1 < g.size)) pairs
  pub exact : set.from_list pairs ≡ g.edges

-- An edge that is to come, where `add` holds, or to go: the one between `u` and `v`. It is what an `Update` says, of any two numbers.
pub record EdgeUpdate : Type 0 where
  pub add : Bool
  pub u : ℕ
  pub v : ℕ

-- the sign and the ends of an update
abbrev pub parts_of : Update → EdgeUpdate
parts_of update = record { add = update.add; u = update.u; v = update.v }

-- the sign of a change, and the numbers that stand for its ids, the lesser one first
abbrev pub numbered_change : List ℕ → change.ChangeLine → EdgeUpdate
numbered_change ids c = record {
  add = c.add;
  u = min (place ids c.a) (place ids c.b);
  v = max (place ids c.a) (place ids c.b);
}

-- the updates are those changes
abbrev pub AreUpdates : List ℕ → List change.ChangeLine → List Update → Type 0
AreUpdates ids changes updates = map parts_of updates ≡ map (numbered_change ids) changes

-- The updates of a batch that decide, and how many others they overrule. It is what a `Batch` says, between any numbers.
pub record EdgeBatch : Type 0 where
  pub updates : List EdgeUpdate
  pub overruled : ℕ

-- what each update of a batch says, and the count of the others
abbrev pub parts_of_batch : Batch → EdgeBatch
parts_of_batch batch = record { updates = map parts_of batch.updates.items; overruled = batch.overruled }

-- the changes of a batch that decide, between the numbers that stand for their ids, and how many others they overrule
abbrev pub numbered_batch : List ℕ → List change.ChangeLine → EdgeBatch
numbered_batch ids changes = record { updates = map (numbered_change ids) (deciding changes); overruled = overruled changes }

-- what the batches of a text are between the numbers that stand for the ids
abbrev pub numbered_batches : List ℕ → Told → List EdgeBatch
numbered_batches ids told = map (numbered_batch ids) (batches told)

-- the input is what was told: the updates of a batch are the changes that decide, in their order
pub record IsInput (told : Told) (input : Input) : Type 0 where
  pub named : AreIds (names told) input.ids.items
  pub start : AreEdges (start_graph input.ids.items told.edges) input.start.items
  pub batches : map parts_of_batch input.batches.items ≡ numbered_batches input.ids.items told

-- the ids that were told, and the edges in their order between the numbers that stand for their ids, without loops
pub record IsNamedEdges (told : Told) (listed : NamedEdges) : Type 0 where
  pub named : AreIds (names told) listed.ids.items
  pub edges : listed.edges.items ≡ filter_map (numbered listed.ids.items) told.edges

-- the two ends of an update
abbrev pub edge_of : Update → ℕ × ℕ
edge_of update = (update.u, update.v)

-- Each update joins two of so many vertices, and no two are of one edge. So it doesn't matter in which order they are applied.
pub record IsBatch (vertices : ℕ) (batch : List Update) : Type 0 where
  pub within : All (λ update. update.v < vertices) batch
  pub apart : AllPairs (λ x y. edge_of x ≢ edge_of y) batch
