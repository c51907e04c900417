-- A vertex is marked where it was marked before and none of the places so far is its own.
use Rattle.std.proofs.Common.{◌≡◌, ℕ, is_some, false, slice_index_or, take}
use Rattle.std.specs.Prelude.{if◌then◌else◌}
use Rattle.kc_view.specs.Answers.{core_in}
use Rattle.kc_view.proofs.plain.unmark_places.Given as goal

abbrev pub invariant-loop-place : goal.invariant-loop-place
invariant-loop-place l =
    (w : ℕ)
    → slice_index_or l.is_placed w false
    ≡ (if is_some (core_in w (take l.place-index l.places)) then false else slice_index_or l.fn.is_placed w false)
