-- The lists so far are rows.
use Rattle.std.proofs.Common.{◌≡◌, take}
use Rattle.kc_graph.proofs.rows.Rows.of_lists.Given as goal

abbrev pub invariant-loop-list : goal.invariant-loop-list
invariant-loop-list l = l.copies ≡ take l.list-index l.lists
