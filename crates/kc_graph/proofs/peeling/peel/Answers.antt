-- A vertex that is left would wait in a bucket of its number, but none is that high: so all are taken, which makes the certificate.
use Rattle.std.proofs.Common.{arith, ◌<◌, []}
use Rattle.kc_graph.specs.Rows.{lists}
use Rattle.kc_graph.proofs.Buckets.{length-lists}
use Rattle.kc_graph.proofs.PeelingLemmas.{remaining-lt}
use Rattle.kc_graph.proofs.Filing.{all_taken}
use Rattle.kc_graph.proofs.peeling.peel.Goals as goal

pub levels_of-levels-requires : goal.levels_of-levels-requires
levels_of-levels-requires c = rw c.deref.ensures.value (λ v l.
    let v-in : v < c.args.graph.now.size = omega (arith, c.in_ok-core.ensures.count) in
    omega (arith, c.in_ok-core.ensures.each v v-in, remaining-lt c.args.graph.now [] v v-in, c.vertices.ensures))

pub returns : goal.returns
returns c =
    all_taken c.args.graph.now c.loop-level.level c.loop-level.core.items c.loop-level.order.items (lists c.loop-level.buckets.items)
    c.loop-level.invariant.1
    (omega (arith, length-lists c.loop-level.buckets.items, c.loop-level.invariant.0))
