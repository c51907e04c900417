-- What a batch of updates does to the edges of a graph.
use Rattle.std.specs.Prelude.{◌&&◌, not, ℕ, Bool, List, map, count_by, if◌then◌else◌}
use Rattle.std.specs.List.{filter}
use Rattle.std.specs.FinSet as set
use Rattle.kc_graph.specs.SimpleGraph.{SimpleGraph, pair_cmp}
use Rattle.kc_text.specs.Inputs.{EdgeUpdate}

-- whether the update adds its edge, where else it removes it
abbrev pub is_add : EdgeUpdate → Bool
is_add update = update.add

-- the edge that the update adds or removes
abbrev pub changed_edge : EdgeUpdate → ℕ × ℕ
changed_edge update = (update.u, update.v)

-- the edges that the batch adds
abbrev pub edges_added : List EdgeUpdate → List (ℕ × ℕ)
edges_added batch = map changed_edge (filter is_add batch)

-- the edges that the batch removes
abbrev pub edges_removed : List EdgeUpdate → List (ℕ × ℕ)
edges_removed batch = map changed_edge (filter (λ update. not (is_add update)) batch)

-- the edges after a batch: those before it, with its adds and without its removes
unfoldable pub edges_after_batch : set.FinSet pair_cmp → List EdgeUpdate → set.FinSet pair_cmp
edges_after_batch edges batch = set.difference (set.union edges (set.from_list (edges_added batch))) (set.from_list (edges_removed batch))

-- the graph after a batch, with the same vertices
abbrev pub graph_after_batch : SimpleGraph → List EdgeUpdate → SimpleGraph
graph_after_batch g batch = record { size = g.size; edges = edges_after_batch g.edges batch }

-- An update is effective if it adds an edge that is not there before its batch, or removes one that is. Else it is kept.
abbrev pub is_effective : set.FinSet pair_cmp → EdgeUpdate → Bool
is_effective edges update = if is_add update then not (set.contains edges (changed_edge update)) else set.contains edges (changed_edge update)

-- how many updates add an edge that was not there
abbrev pub added : set.FinSet pair_cmp → List EdgeUpdate → ℕ
added edges batch = count_by (λ update. is_add update && is_effective edges update) batch

-- how many updates remove an edge that was there
abbrev pub removed : set.FinSet pair_cmp → List EdgeUpdate → ℕ
removed edges batch = count_by (λ update. not (is_add update) && is_effective edges update) batch

-- how many updates change nothing
abbrev pub kept : set.FinSet pair_cmp → List EdgeUpdate → ℕ
kept edges batch = count_by (λ update. not (is_effective edges update)) batch

-- the graph with a single update more
abbrev pub graph_after_update : SimpleGraph → EdgeUpdate → SimpleGraph
graph_after_update g update = record {
  size = g.size;
  edges = if is_add update then set.insert g.edges (changed_edge update) else set.remove g.edges (changed_edge update);
}
