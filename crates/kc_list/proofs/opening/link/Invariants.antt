-- The places that were pushed are those before the next, which is not among them.
use Rattle.std.proofs.Common.{◌≡◌, take}
use Rattle.kc_list.proofs.opening.link.Given as goal

abbrev pub invariant-loop-x : goal.invariant-loop-x
invariant-loop-x l = (l.links.size ≡ l.size) × (l.links.list ≡ take l.x-index l.order)
