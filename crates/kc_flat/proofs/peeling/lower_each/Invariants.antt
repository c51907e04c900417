-- The vertices stay binned, those so far have lost one, and those at the front of the order stand where they stood.
use Rattle.std.proofs.Common.{◌≡◌, ◌≤◌, ◌<◌, ℕ, length, take}
use Rattle.kc_graph.specs.Peeling.{at}
use Rattle.kc_flat.specs.Bins.{AreBinned, LoseOne}
use Rattle.kc_flat.proofs.peeling.lower_each.Given as goal

abbrev pub invariant-loop-w : goal.invariant-loop-w
invariant-loop-w l = record {
  binned : AreBinned l.core l.order l.places l.ends;
  lost : LoseOne l.level (take l.w-index l.neighbours) l.initial.core l.core;
  before : (i : ℕ) → i < length l.initial.core → at l.initial.core (at l.initial.order i) ≤ l.level → at l.order i ≡ at l.initial.order i;
}
