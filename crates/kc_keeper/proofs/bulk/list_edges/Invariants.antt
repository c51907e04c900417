-- The edges from the vertices before the present one are listed.
use Rattle.kc_keeper.specs.Bulk.{AreEdgesFrom}
use Rattle.kc_keeper.proofs.bulk.list_edges.Given as goal

abbrev pub invariant-loop-v : goal.invariant-loop-v
invariant-loop-v l = AreEdgesFrom l.graph l.v l.pairs.items
