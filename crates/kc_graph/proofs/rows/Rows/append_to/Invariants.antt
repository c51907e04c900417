-- The rows so far stand as lists behind the others, and the rows to come lie in the block.
use Rattle.std.proofs.Common.{◌≡◌, ◌++◌, length}
use Rattle.std.specs.Prelude.{All}
use Rattle.std.specs.Arc.{arc_slice_items}
use Rattle.std.specs.Vec.Iter.{into_iter_items, into_iter_len}
use Rattle.kc_graph.specs.Blocks.{LiesIn, entries_of_each}
use Rattle.kc_graph.proofs.rows.Rows.append_to.Given as goal

abbrev pub invariant-loop-row : goal.invariant-loop-row
invariant-loop-row l =
    (l.lists.items ≡ l.initial.lists.items ++ entries_of_each (arc_slice_items l.block) l.yielded)
    × All (LiesIn (arc_slice_items l.block)) (into_iter_items l.row-iterator)
    × (l.yielded ++ into_iter_items l.row-iterator ≡ into_iter_items l.initial.row-iterator)
    × (into_iter_len l.row-iterator ≡ length (into_iter_items l.row-iterator))
