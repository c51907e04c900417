-- Before each vertex the heads up to that of its level.
use Rattle.kc_levels.proofs.Opening.{Listing}
use Rattle.kc_levels.proofs.levels.list_with_heads.Given as goal

abbrev pub invariant-loop-v : goal.invariant-loop-v
invariant-loop-v l = Listing l.size l.core l.order l.list.items l.v-index l.next
