-- A vertex has mark 0 where one of the places so far is its own, and else the mark that it had.
use Rattle.std.proofs.Common.{◌≡◌, ℕ, slice_index, take}
use Rattle.kc_view.specs.Marks.{without_places}
use Rattle.kc_view.proofs.scratch.unmark_places.Given as goal

abbrev pub invariant-loop-place : goal.invariant-loop-place
invariant-loop-place l = (w : ℕ) → slice_index l.marks w ≡ without_places (take l.place-index l.places) l.fn.marks w
