-- There are fewer vertices than a number of 32 bits can count, and each has fewer neighbours than there are vertices.
use Rattle.std.proofs.Common.{◌<◌, ℕ, List, [], length, ap, arith}
use Rattle.kc_graph.specs.Peeling.{at}
use Rattle.kc_graph.proofs.PeelingLemmas.{remaining-lt}
use Rattle.kc_flat.proofs.peeling.decompose_telling.Goals as goal

pub binned-requires-clause-few : goal.binned-requires-clause-few
binned-requires-clause-few g c = omega (arith, ap length c.deref.ensures.value, c.in_ok-core.ensures.count, c.in_ok-core.ensures.few)

pub binned-requires-clause-low : goal.binned-requires-clause-low
binned-requires-clause-low g c v l =
    let lv : v < c.args.graph.now.size = omega (arith, l, ap length c.deref.ensures.value, c.in_ok-core.ensures.count) in
    omega (
      arith,
      ap (λ (t : List ℕ). at t v) c.deref.ensures.value,
      c.in_ok-core.ensures.each v lv,
      remaining-lt c.args.graph.now [] v lv,
      c.in_ok-core.ensures.few,
    )

pub take_all-requires-clause-few : goal.take_all-requires-clause-few
take_all-requires-clause-few g c = omega (arith, ap length c.deref_mut.ensures.value, c.in_ok-core.ensures.count, c.in_ok-core.ensures.few)
