-- How the updates of a batch that decide are found by a sort.
use Rattle.std.specs.Prelude.{◌≡◌, ◌<◌, ◌*◌, ◌+◌, ◌-◌, ◌/◌, ◌%◌, ℕ, Bool, true, false, List, All, length, drop, map, slice_index, slice_index_or}
use Rattle.std.specs.List.{list_any}
use Rattle.kc_graph.specs.declared.update.Update.{Update}
use Rattle.kc_text.specs.Inputs.{EdgeBatch, parts_of}
use Rattle.kc_text.specs.LastUpdates.{last_of_edges, same_edge}
use Rattle.kc_text.specs.declared.overruling.TheConstants.{NUMBERS}

-- The edge of an update and its place in the batch, as one number. Such numbers stand by their edges, and those of one edge by their places.
abbrev pub rank : Update → ℕ → ℕ
rank x place = (x.u * NUMBERS + x.v) * NUMBERS + place

-- the ranks of the updates of a batch, whose ends are numbers of vertices
pub record AreRanks (updates : List Update) (ranks : List ℕ) : Type 0 where
  pub count : length ranks ≡ length updates
  pub ends : All (λ update. update.v < NUMBERS) updates
  pub each : (i : ℕ) (x : Update) → i < length updates → slice_index ranks i ≡ rank (slice_index_or updates i x) i

-- a rank, and a greater one of the same edge
abbrev pub AreOfOneEdge : ℕ → ℕ → Type 0
AreOfOneEdge a b = (a < b) × (a / NUMBERS ≡ b / NUMBERS)

-- the places are marked of the ranks that one of the same edge follows
pub record MarksFollowed (ranks : List ℕ) (marks : List Bool) : Type 0 where
  pub sound : (place : ℕ) → slice_index_or marks place false ≡ true
      → (k : ℕ) × (k + 1 < length ranks) × AreOfOneEdge (slice_index ranks k) (slice_index ranks (k + 1)) × (slice_index ranks k % NUMBERS ≡ place)
  pub complete : (k : ℕ) → k + 1 < length ranks → AreOfOneEdge (slice_index ranks k) (slice_index ranks (k + 1))
      → slice_index_or marks (slice_index ranks k % NUMBERS) false ≡ true

-- each update is marked of whose edge there is a later one
pub record AreOverruled (updates : List Update) (marks : List Bool) : Type 0 where
  pub count : length marks ≡ length updates
  pub each : (i : ℕ) (x : Update) → i < length updates → slice_index_or marks i false ≡ list_any (same_edge (slice_index_or updates i x)) (drop (i + 1) updates)

-- the last update of each edge, and how many others there are
abbrev pub last_batch : List Update → EdgeBatch
last_batch updates = record { updates = map parts_of (last_of_edges updates); overruled = length updates - length (last_of_edges updates) }
