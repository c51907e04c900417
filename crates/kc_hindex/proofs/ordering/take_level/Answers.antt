-- Who comes out of the row of the level is taken; once the row is empty, no vertex of the level is left.
use Rattle.std.proofs.Common.{arith, sym, subst, ◌≤◌, ℕ, List, length}
use Rattle.kc_lists.proofs.Members.{below_bound}
use Rattle.kc_graph.specs.Rows.{lists}
use Rattle.kc_graph.proofs.Buckets.{length-lists}
use Rattle.kc_hindex.specs.Ordering.{IsNext, Orders}
use Rattle.kc_hindex.proofs.Taking.{next_level, popped_next}
use Rattle.kc_hindex.proofs.ordering.take_level.Goals as goal

pub take_vertex-requires-clause-next : goal.take_vertex-requires-clause-next
take_vertex-requires-clause-next c =
    let rows : List (List ℕ) = lists c.pop_from.new.rows in
    let n = popped_next c.args.graph.now c.args.core.now c.args.level c.in-Some.v c.loop-v.left c.loop-v.order.items (lists c.loop-v.waiting) rows
    c.loop-v.invariant.0 c.in-Some.ensures.some (omega (arith, c.requires.level_in, length-lists c.loop-v.waiting, c.loop-v.invariant.1)) in
    subst (λ (l : ℕ). IsNext c.args.graph.now c.args.core.now l c.in-Some.v c.loop-v.left c.loop-v.order.items rows) (sym n.here) n

pub loop-v-smaller : goal.loop-v-smaller
loop-v-smaller c =
    let taken : List ℕ = c.take_vertex.new.order.items in
    let p = c.in_ok-take_vertex.ensures.orders.peeled in
    let most : length taken ≤ c.args.graph.now.size = below_bound c.args.graph.now.size taken p.distinct p.within in
    omega (arith, most, c.in_ok-take_vertex.ensures.longer)

pub loop-v-preserved : goal.loop-v-preserved
loop-v-preserved c =
    let rows : List (List ℕ) = lists c.pop_from.new.rows in
    let n = popped_next c.args.graph.now c.args.core.now c.args.level c.in-Some.v c.loop-v.left c.loop-v.order.items (lists c.loop-v.waiting) rows
    c.loop-v.invariant.0 c.in-Some.ensures.some (omega (arith, c.requires.level_in, length-lists c.loop-v.waiting, c.loop-v.invariant.1)) in (
      subst
          (λ (l : ℕ).
          Orders c.args.graph.now c.args.core.now l c.take_vertex.new.left c.take_vertex.new.order.items (lists c.take_vertex.new.waiting))
          n.here c.in_ok-take_vertex.ensures.orders,
      omega (arith, c.in_ok-take_vertex.ensures.one_row, c.loop-v.invariant.1),
    )

pub returns-clause-orders : goal.returns-clause-orders
returns-clause-orders c =
    next_level c.args.graph.now c.args.core.now c.args.level c.loop-v.left c.loop-v.order.items (lists c.pop_from.new.rows)
    c.requires.numbers
    (subst (Orders c.args.graph.now c.args.core.now c.args.level c.loop-v.left c.loop-v.order.items) (sym c.in_default.ensures.none.0)
    c.loop-v.invariant.0)
    c.in_default.ensures.none.1
