-- The numbers so far are those below the next.
use Rattle.std.proofs.Common.{◌≡◌, ◌≤◌, ℕ, vec_len}
use Rattle.std.specs.Prelude.{vec_capacity}
use Rattle.kc_lists.specs.Lists.{below, times}
use Rattle.kc_batch.proofs.order.places.Given as goal

abbrev pub invariant-loop-place : goal.invariant-loop-place
invariant-loop-place l = record {
  all : (y : ℕ) → times y l.places.items ≡ times y (below l.place);
  len : vec_len l.places ≡ l.place;
  room : l.count ≤ vec_capacity l.places;
}
