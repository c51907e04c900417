-- The numbers so far are distinct and below `n`, and just they are marked as seen.
use Rattle.kc_cert.proofs.Enumerating.{SeenTo}
use Rattle.kc_cert.proofs.conditions.is_enumeration.Given as goal

abbrev pub invariant-loop-v : goal.invariant-loop-v
invariant-loop-v l = SeenTo l.n l.v-index l.order l.seen.items
