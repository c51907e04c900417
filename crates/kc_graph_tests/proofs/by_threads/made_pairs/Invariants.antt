-- The pairs so far have vertices as their ends.
use Rattle.kc_flat.specs.Pairs.{AreWithin}
use Rattle.kc_graph_tests.proofs.by_threads.made_pairs.Given as goal

abbrev pub invariant-loop-i : goal.invariant-loop-i
invariant-loop-i l = AreWithin l.vertices l.pairs.items
