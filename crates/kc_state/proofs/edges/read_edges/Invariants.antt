-- The edges so far are pairs of two vertices, the lesser one first.
use Rattle.std.proofs.Common.{◌<◌, ◌≤◌, length}
use Rattle.std.specs.Prelude.{All}
use Rattle.kc_state.proofs.edges.read_edges.Given as goal

abbrev pub invariant-loop : goal.invariant-loop
invariant-loop l = record {
  within : All (λ e. (e.0 < e.1) × (e.1 < length l.ids)) l.edges.items;
  shorter : length l.lines.rest.now ≤ length l.fn.lines.rest.now;
}
