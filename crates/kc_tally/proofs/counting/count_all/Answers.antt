-- One edge more is counted.
use Rattle.std.proofs.Common.{get_or, arith, nat_le}
use Rattle.kc_graph.specs.declared.bulk.Edge.{Edge}
use Rattle.kc_tally.specs.Keys.{has_lesser_key}
use Rattle.kc_tally.specs.Tallies.{leads_to}
use Rattle.kc_tally.proofs.Sums.{count-more}
use Rattle.kc_tally.proofs.counting.count_all.Goals as goal

pub loop-edge-preserved : goal.loop-edge-preserved
loop-edge-preserved c =
    let none : Edge = record { u = 0; v = 0 } in
    record {
      later_each = omega (arith, c.count_edge.auto.later, c.loop-edge.invariant.later_each);
      supporters_each = omega (arith, c.count_edge.auto.supporters, c.loop-edge.invariant.supporters_each);
      later = λ v l. omega (
        arith,
        c.count_edge.ensures.later v l,
        c.loop-edge.invariant.later v l,
        count-more (leads_to (has_lesser_key c.args.core.now c.args.rank.now v) v) c.args.edges.now c.loop-edge.edge-index none c.loop-edge-test.true,
      );
      supporters = λ v l. omega (
        arith,
        c.count_edge.ensures.supporters v l,
        c.loop-edge.invariant.supporters v l,
        count-more (leads_to (λ w. nat_le (get_or c.args.core.now v 0) (get_or c.args.core.now w 0)) v) c.args.edges.now c.loop-edge.edge-index none
            c.loop-edge-test.true,
      );
    }
