-- The first layer has the state at the first step; each layer that is not empty leads from its step to the next one.
use Rattle.std.proofs.Common.{◌≡◌, ◌≢◌, ◌≤◌, ◌<◌, ◌+◌, ◌∙◌, ap, arith, sym, subst, ℕ, List, [], true, get_or, length}
use Rattle.std.specs.Prelude.{count_by}
use Rattle.std.specs.Vec.{vec_len}
use Rattle.std.proofs.lemmas.Bool.{eqb-false}
use Rattle.kc_lists.specs.Lists.{member}
use Rattle.kc_lists.proofs.Counting.{member-get_or}
use Rattle.kc_graph.specs.Peeling.{at}
use Rattle.kc_lists.proofs.Shared.{no_items}
use Rattle.kc_tally.specs.Taking.{TakesLayer, are_beside}
use Rattle.kc_tally.proofs.Steps.{Layered, Ranks, beside-left, joins-within, layered_all, layered_first, layered_next, step-below}
use Rattle.kc_tally.proofs.layering.rank_by_layers.Goals as goal

-- what holds of the members of a list holds of its places
each-place : (bound : ℕ) (xs ys : List ℕ) → ys ≡ xs → ((x : ℕ) → member x xs ≡ true → x < bound) → (k d : ℕ) → k < length ys → get_or ys k d < bound
each-place bound xs ys same h k d l = h (get_or ys k d) (sym (ap (member (get_or ys k d)) same) ∙ member-get_or ys k d l)

-- a list that is not empty has a first
first-member : (xs : List ℕ) → length xs ≢ 0 → member (get_or xs 0 0) xs ≡ true
first-member xs some = member-get_or xs 0 0 (omega (arith, some))

pub rank_each-requires : goal.rank_each-requires
rank_each-requires c =
    each-place (length c.args.rank.now) c.args.first.items c.deref.result.now c.deref.ensures.value
    (λ x m. omega (arith, (c.requires.first.within x m).0, c.requires.one_rank))

pub loop-alloc-init : goal.loop-alloc-init
loop-alloc-init c =
    let ranked : Ranks c.deref.result.now 0 c.args.rank.now c.rank_each.new.rank = record {
      one_each = c.rank_each.auto.rank;
      ranked = c.rank_each.ensures.ranked;
      others = c.rank_each.ensures.others;
    } in
    layered_first c.args.graph.now c.args.core.now c.args.left.now c.args.first.items c.args.rank.now c.rank_each.new.rank (omega arith)
    c.requires.one_left c.requires.counted c.requires.first c.requires.one_rank c.requires.untaken
    (subst (λ (layer : List ℕ). Ranks layer 0 c.args.rank.now c.rank_each.new.rank) c.deref.ensures.value ranked)

pub overflow_add-step : goal.overflow_add-step
overflow_add-step c =
    let layer : List ℕ = c.loop-alloc.layer.items in
    let some : length layer ≢ 0 = λ e. eqb-false (vec_len c.loop-alloc.layer) 0 (sym c.is_empty.ensures ∙ c.loop-alloc-test.true) (omega (arith, e)) in
    omega (arith, step-below _ _ _ _ _ layer c.loop-alloc.invariant (get_or layer 0 0) (first-member layer some))

pub take_layer-requires-clause-within : goal.take_layer-requires-clause-within
take_layer-requires-clause-within c =
    each-place c.args.graph.now.size c.loop-alloc.layer.items c.deref-in-loop-alloc.result.now c.deref-in-loop-alloc.ensures.value
    (λ x m. (c.loop-alloc.invariant.here x m).0)

pub take_layer-requires-clause-some_left : goal.take_layer-requires-clause-some_left
take_layer-requires-clause-some_left c = λ v l.
    subst (λ (layer : List ℕ). count_by (are_beside c.args.graph.now c.args.core.now v) layer ≤ at c.loop-alloc.left v)
    (sym c.deref-in-loop-alloc.ensures.value) (beside-left _ _ _ _ _ _ c.loop-alloc.invariant v l)

pub rank_each-requires-in-loop-alloc : goal.rank_each-requires-in-loop-alloc
rank_each-requires-in-loop-alloc c =
    let next : List ℕ = c.in_ok-layer.layer.items in
    let takes : TakesLayer c.args.graph.now c.args.core.now c.loop-alloc.layer.items c.loop-alloc.left c.take_layer.new.left next =
    subst (λ (taken : List ℕ). TakesLayer c.args.graph.now c.args.core.now taken c.loop-alloc.left c.take_layer.new.left next)
    c.deref-in-loop-alloc.ensures.value c.in_ok-layer.ensures in
    each-place (length c.loop-alloc.rank) next c.deref-in-loop-alloc-2.result.now c.deref-in-loop-alloc-2.ensures.value
    (λ x m. omega (arith, joins-within _ _ _ _ _ _ _ next c.loop-alloc.invariant takes x m, c.loop-alloc.invariant.one_rank))

pub loop-alloc-smaller : goal.loop-alloc-smaller
loop-alloc-smaller c =
    let layer : List ℕ = c.loop-alloc.layer.items in
    let some : length layer ≢ 0 = λ e. eqb-false (vec_len c.loop-alloc.layer) 0 (sym c.is_empty.ensures ∙ c.loop-alloc-test.true) (omega (arith, e)) in
    omega (arith, step-below _ _ _ _ _ layer c.loop-alloc.invariant (get_or layer 0 0) (first-member layer some))

pub loop-alloc-preserved : goal.loop-alloc-preserved
loop-alloc-preserved c =
    let layer : List ℕ = c.loop-alloc.layer.items in
    let some : length layer ≢ 0 = λ e. eqb-false (vec_len c.loop-alloc.layer) 0 (sym c.is_empty.ensures ∙ c.loop-alloc-test.true) (omega (arith, e)) in
    let next : List ℕ = c.in_ok-layer.layer.items in
    let takes : TakesLayer c.args.graph.now c.args.core.now layer c.loop-alloc.left c.take_layer.new.left next =
    subst (λ (taken : List ℕ). TakesLayer c.args.graph.now c.args.core.now taken c.loop-alloc.left c.take_layer.new.left next)
    c.deref-in-loop-alloc.ensures.value c.in_ok-layer.ensures in
    let ranked : Ranks c.deref-in-loop-alloc-2.result.now (c.loop-alloc.step + 1) c.loop-alloc.rank c.rank_each-in-loop-alloc.new.rank = record {
      one_each = c.rank_each-in-loop-alloc.auto.rank;
      ranked = c.rank_each-in-loop-alloc.ensures.ranked;
      others = c.rank_each-in-loop-alloc.ensures.others;
    } in
    layered_next c.args.graph.now c.args.core.now c.loop-alloc.step c.loop-alloc.left c.loop-alloc.rank layer c.take_layer.new.left next
    c.rank_each-in-loop-alloc.new.rank c.loop-alloc.invariant (omega arith) takes
    (subst (λ (xs : List ℕ). Ranks xs (c.loop-alloc.step + 1) c.loop-alloc.rank c.rank_each-in-loop-alloc.new.rank)
    c.deref-in-loop-alloc-2.ensures.value ranked)
    (get_or layer 0 0) (first-member layer some)

pub returns : goal.returns
returns c =
    let none : c.loop-alloc.layer.items ≡ [] =
    no_items c.loop-alloc.layer.items (vec_len c.loop-alloc.layer) c.is_empty.result (omega arith) c.is_empty.ensures c.loop-alloc-test.false in
    layered_all c.args.graph.now c.args.core.now c.loop-alloc.step c.loop-alloc.left c.loop-alloc.rank c.requires.numbers
    (subst (λ (layer : List ℕ). Layered c.args.graph.now c.args.core.now c.loop-alloc.step c.loop-alloc.left c.loop-alloc.rank layer) none
    c.loop-alloc.invariant)
