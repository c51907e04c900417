-- A vertex has mark 0 where one of the lists so far is its own, and else the mark that it had.
use Rattle.std.proofs.Common.{◌≡◌, ℕ, slice_index, take}
use Rattle.kc_view.specs.Marks.{without_lists}
use Rattle.kc_view.proofs.scratch.unmark_lists.Given as goal

abbrev pub invariant-loop-list : goal.invariant-loop-list
invariant-loop-list l = (w : ℕ) → slice_index l.marks w ≡ without_lists (take l.list-index l.edges) l.fn.marks w
