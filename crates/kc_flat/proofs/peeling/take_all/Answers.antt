-- Whose turn it is has the least number of those that are left.
use Rattle.std.proofs.Common.{◌≡◌, ◌<◌, ℕ, List, length, take, subst, arith}
use Rattle.kc_graph.specs.SimpleGraph.{SimpleGraph}
use Rattle.kc_graph.specs.Peeling.{at}
use Rattle.kc_graph.proofs.PeelingLemmas.{neighbours-distinct}
use Rattle.kc_flat.specs.Bins.{AreBinned}
use Rattle.kc_flat.proofs.Taking.{ArePeeled, taking-starts, least-taken, turn-vertex, turn-left, turn-least, turn-taken, turns-over}
use Rattle.kc_flat.proofs.peeling.take_all.Goals as goal

pub loop-turn-init : goal.loop-turn-init
loop-turn-init g c = (c.requires.binned, c.requires.count, taking-starts c.args.graph.now c.args.core.now c.requires.count c.requires.degrees)

pub neighbours-requires : goal.neighbours-requires
neighbours-requires g c =
    turn-vertex c.args.graph.now c.loop-turn.core c.loop-turn.order c.loop-turn.places c.loop-turn.ends c.loop-turn.invariant.0 c.loop-turn.invariant.1
    c.loop-turn.turn (omega (arith, c.loop-turn-test.true, c.loop-turn.auto.order))

pub lower_each-requires-clause-distinct : goal.lower_each-requires-clause-distinct
lower_each-requires-clause-distinct g c =
    neighbours-distinct c.args.graph.now (at c.loop-turn.order c.loop-turn.turn) c.neighbours.result.now c.neighbours.ensures

pub loop-turn-preserved : goal.loop-turn-preserved
loop-turn-preserved g c =
    let graph : SimpleGraph = c.args.graph.now in
    let core : List ℕ = c.loop-turn.core in
    let order : List ℕ = c.loop-turn.order in
    let places : List ℕ = c.loop-turn.places in
    let ends : List ℕ = c.loop-turn.ends in
    let turn : ℕ = c.loop-turn.turn in
    let h : AreBinned core order places ends = c.loop-turn.invariant.0 in
    let sized : length core ≡ graph.size = c.loop-turn.invariant.1 in
    let l : turn < length order = omega (arith, c.loop-turn-test.true, c.loop-turn.auto.order) in (
      c.lower_each.ensures.binned,
      omega (arith, c.lower_each.auto.core, sized),
      subst (ArePeeled graph c.lower_each.new.core)
          (turn-taken graph core order places ends h sized turn c.lower_each.new.order l c.lower_each.auto.order c.lower_each.ensures.before)
          (least-taken graph (at order turn) core (take turn order) c.neighbours.result.now c.lower_each.new.core c.loop-turn.invariant.2
          (turn-vertex graph core order places ends h sized turn l) (turn-left graph core order places ends h sized turn l)
          (turn-least graph core order places ends h sized turn l) c.neighbours.ensures c.lower_each.ensures.lowered),
    )

pub returns : goal.returns
returns g c =
    turns-over c.args.graph.now c.loop-turn.core c.loop-turn.order c.loop-turn.places c.loop-turn.ends c.loop-turn.invariant.0 c.loop-turn.invariant.1
    c.loop-turn.turn (omega (arith, c.loop-turn-test.false, c.loop-turn.auto.order)) c.loop-turn.invariant.2
