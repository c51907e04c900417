-- Each reader so far has seen what the board shows.
use Rattle.std.proofs.Common.{◌≡◌, All, List, vec_len}
use Rattle.kc_snapshot.specs.declared.member.Member.{Member}
use Rattle.kc_snapshot.proofs.publisher.seat.Given as goal

abbrev pub invariant-loop : goal.invariant-loop
invariant-loop g l = (vec_len l.seats ≡ l.counter) × All (λ (r : List Member). r ≡ l.front) l.seats.items
