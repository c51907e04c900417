-- The map has where each of the numbers so far stands first, and `once` tells whether these are distinct.
use Rattle.std.proofs.Common.{◌≡◌, ◌↔◌, ℕ, IsTrue, nat_eq, take}
use Rattle.std.specs.HashMap.{get}
use Rattle.kc_lists.specs.Lists.{Distinct}
use Rattle.kc_cert.specs.Shifting.{place_in}
use Rattle.kc_cert.proofs.places.Places.in_list.Given as goal

abbrev pub invariant-loop-place : goal.invariant-loop-place
invariant-loop-place l = record {
  each : (q : ℕ) → get nat_eq l.of q ≡ place_in (take l.place l.list) q;
  once : IsTrue l.once ↔ Distinct (take l.place l.list);
}
