-- A vertex is marked where it was marked before and none of the lists so far is its own.
use Rattle.std.proofs.Common.{◌≡◌, ℕ, is_some, false, slice_index_or, take}
use Rattle.std.specs.Prelude.{if◌then◌else◌}
use Rattle.kc_view.specs.Answers.{list_in}
use Rattle.kc_view.proofs.plain.unmark_lists.Given as goal

abbrev pub invariant-loop-list : goal.invariant-loop-list
invariant-loop-list l =
    (w : ℕ)
    → slice_index_or l.is_listed w false
    ≡ (if is_some (list_in w (take l.list-index l.edges)) then false else slice_index_or l.fn.is_listed w false)
