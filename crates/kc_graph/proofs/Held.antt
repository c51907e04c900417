-- The rows go on holding their edges, where one edge more or less stands in two of them.
use Rattle.std.proofs.Common.{◌≡◌, ◌≤◌, ◌<◌, ◌+◌, ◌-◌, ℕ, true, false, List, length, arith}
use Rattle.kc_lists.specs.Lists.{member}
use Rattle.kc_graph.specs.Rows.{row, HoldsEdges, BothInserted, BothDeleted}
use Rattle.kc_graph.proofs.Adding.{added-adjacency, sum-added, len-added}
use Rattle.kc_graph.proofs.Removing as removing
use Rattle.kc_graph.proofs.TwoRows.{new-length}

module _ (old new : List (List ℕ)) (u v edges : ℕ) (differ : u ≡ v → ⊥) (lu : u < length old) (lv : v < length old) (h : HoldsEdges old edges) where
  -- rows with an edge more hold one edge more
  pub held-added : BothInserted old new u v → member v (row old u) ≡ false → HoldsEdges new (edges + 1)
  held-added both lacks = record {
    adjacency = added-adjacency old new u v differ lu lv both h.adjacency;
    few = omega (arith, new-length old new u v both.first both.second both.rows, h.few);
    counted = omega (arith, len-added old new u v differ lu lv both h.adjacency lacks, h.counted);
    twice = omega (arith, sum-added old new u v differ lu lv both, h.twice);
  }

  -- where an edge can go, there is one
  pub some_edge : BothDeleted old new u v → 1 ≤ edges
  some_edge both = omega (arith, removing.sum-removed old new u v differ lu lv both, h.twice)

  -- rows with an edge less hold one edge less
  pub held-removed : BothDeleted old new u v → member v (row old u) ≡ true → HoldsEdges new (edges - 1)
  held-removed both here = record {
    adjacency = removing.removed-adjacency old new u v differ lu lv both h.adjacency;
    few = omega (arith, new-length old new u v both.first both.second both.rows, h.few);
    counted = omega (arith, removing.len-removed old new u v differ lu lv both h.adjacency here, h.counted);
    twice = omega (arith, removing.sum-removed old new u v differ lu lv both, h.twice, some_edge both);
  }
