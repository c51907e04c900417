-- The neighbours of the next vertex have it left, and lose it.
use Rattle.std.proofs.Common.{ℕ, List, get_or, subst, sym, take}
use Rattle.std.proofs.lemmas.List.{take_more}
use Rattle.kc_graph.proofs.PeelingLemmas.{neighbours-distinct}
use Rattle.kc_tally.specs.Taking.{TakesLayer}
use Rattle.kc_tally.proofs.TakingLayers.{some-left, takes_more}
use Rattle.kc_tally.proofs.layering.take_layer.Goals as goal

pub release_each-requires-clause-distinct : goal.release_each-requires-clause-distinct
release_each-requires-clause-distinct c = neighbours-distinct _ _ _ c.neighbours.ensures

pub release_each-requires-clause-some_left : goal.release_each-requires-clause-some_left
release_each-requires-clause-some_left c =
    some-left c.args.graph.now c.args.core.now c.args.layer.now c.args.left.now c.loop-v.left c.loop-v.next.items c.loop-v.v-index c.loop-v-test.true
    c.loop-v.invariant c.requires.some_left c.neighbours.result.now c.neighbours.ensures

pub loop-v-preserved : goal.loop-v-preserved
loop-v-preserved c =
    let i : ℕ = c.loop-v.v-index in
    let layer : List ℕ = c.args.layer.now in
    subst (λ (taken : List ℕ). TakesLayer c.args.graph.now c.args.core.now taken c.args.left.now c.release_each.new.left c.release_each.new.next.items)
    (sym (take_more layer i 0 c.loop-v-test.true))
    (takes_more c.args.graph.now c.args.core.now (take i layer) c.args.left.now c.loop-v.left c.loop-v.next.items c.loop-v.invariant (get_or layer i 0)
    c.neighbours.result.now c.release_each.new.left c.release_each.new.next.items c.neighbours.ensures c.in_ok-release_each.ensures)
