-- The vertex at the next place gets that place; the order has no vertex twice, so those before keep theirs.
use Rattle.std.proofs.Common.{ℕ, arith, subst}
use Rattle.kc_graph.proofs.Places.{PlacedTo, length-enumerates, placed_none, placed_more, placed_all}
use Rattle.kc_graph.proofs.lawful.places_in.Goals as goal

pub loop-place-init : goal.loop-place-init
loop-place-init c = placed_none c.args.n c.args.order.now c.in_ok-places.places.items (omega (arith, c.in_ok-places.ensures.len))

pub overflow_cast-place : goal.overflow_cast-place
overflow_cast-place c = omega (arith, length-enumerates c.args.n c.args.order.now c.requires)

pub loop-place-preserved : goal.loop-place-preserved
loop-place-preserved c =
    placed_more c.args.n c.loop-place.place c.args.order.now c.loop-place.places.items c.requires c.loop-place-test.true
    c.loop-place.invariant

pub returns : goal.returns
returns c = placed_all c.args.n c.args.order.now c.loop-place.places.items c.requires
    (subst (λ (i : ℕ). PlacedTo c.args.n i c.args.order.now c.loop-place.places.items) (omega arith) c.loop-place.invariant)
