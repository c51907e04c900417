-- What stood at the places so far stands by its vertices.
use Rattle.std.proofs.Common.{◌≡◌, ◌<◌, ℕ, get_or, length}
use Rattle.kc_graph.specs.Peeling.{at}
use Rattle.kc_claims.proofs.placing.by_vertices.Given as goal

abbrev pub invariant-loop-place : goal.invariant-loop-place
invariant-loop-place g l = record {
  size : length l.moved.items ≡ length l.column.items;
  stands : (i : ℕ) (d : g.row.T.Denot) → i < l.place → get_or l.moved.items (at l.order i) d ≡ get_or l.column.items i d;
}
