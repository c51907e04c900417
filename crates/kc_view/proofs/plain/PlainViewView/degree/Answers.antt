-- A first call keeps the neighbours of the vertex and marks it; a later one finds by the mark that they were kept.
use Rattle.std.proofs.Common.{ℕ, length, ap, arith}
use Rattle.kc_view.proofs.AtRest.{FirstList, first_list, few_there, list_again, lists-true}
use Rattle.kc_view.proofs.plain.PlainViewView.degree.Goals.{In_ok-keep_list}
use Rattle.kc_view.proofs.plain.PlainViewView.degree.Goals as goal

-- what the first call leaves
list-first : (c : In_ok-keep_list) → FirstList c.self.inside.state.now
    (record { edges = c.self.inside.edges.items; places = c.self.inside.places.items; orders = c.self.inside.orders.items })
    c.self.inside.handed c.self.inside.is_listed.items c.self.inside.is_placed.items
    (record { vertex = c.args.w; at = 0; neighbours = c.neighbours-neighbours.result.now })
list-first c =
    first_list c.self.invariant c.self.view_is _ _ c.requires c.graph.ensures.graph c.neighbours-neighbours.ensures c.index.ensures c.if-not-index.true

pub overflow_cast-degree : goal.overflow_cast-degree
overflow_cast-degree c = omega (arith, few_there c.self.invariant c.self.view_is c.args.w _ c.graph.ensures.graph c.neighbours-neighbours.ensures)

pub invariant_of-self-then-not-index : goal.invariant_of-self-then-not-index
invariant_of-self-then-not-index c =
    rw c.in_ok-keep_list.ensures.ok (list-first (goal.at.invariant_of-self-then-not-index c).In_ok-keep_list).rests.keeps

pub returns-in_ok-keep_list-clause-told : goal.returns-in_ok-keep_list-clause-told
returns-in_ok-keep_list-clause-told c =
    rw (c.in_ok-keep_list.ensures.ok, ← c.self.view_is) (list-first (goal.at.returns-in_ok-keep_list-clause-told c).In_ok-keep_list).tells.told

pub returns-in_ok-keep_list-clause-length : goal.returns-in_ok-keep_list-clause-length
returns-in_ok-keep_list-clause-length c =
    rw c.in_ok-keep_list.ensures.ok (ap (length {A = ℕ}) (list-first (goal.at.returns-in_ok-keep_list-clause-length c).In_ok-keep_list).tells.list)

pub returns-else-not-index-clause-length : goal.returns-else-not-index-clause-length
returns-else-not-index-clause-length c =
    rw (← c.self.view_is) (ap (length {A = ℕ})
    (list_again c.self.invariant c.self.view_is c.args.w _ _ c.requires c.graph.ensures.graph c.neighbours-neighbours.ensures c.index.ensures
    c.if-not-index.false))

pub returns-in_err-keep_list-clause-lists : goal.returns-in_err-keep_list-clause-lists
returns-in_err-keep_list-clause-lists c = rw c.in_err-keep_list.ensures.err (lists-true _ c.self.inside.state.now c.self.invariant.agrees)

pub returns-in_ok-keep_list-clause-lists : goal.returns-in_ok-keep_list-clause-lists
returns-in_ok-keep_list-clause-lists c =
    rw c.in_ok-keep_list.ensures.ok (list-first (goal.at.returns-in_ok-keep_list-clause-lists c).In_ok-keep_list).rests.lists

pub returns-else-not-index-clause-lists : goal.returns-else-not-index-clause-lists
returns-else-not-index-clause-lists c = rw (← c.self.view_is) (lists-true _ c.self.inside.state.now c.self.invariant.agrees)

pub returns-in_ok-keep_list-clause-goes_on : goal.returns-in_ok-keep_list-clause-goes_on
returns-in_ok-keep_list-clause-goes_on c =
    rw (c.in_ok-keep_list.ensures.ok, ← c.self.view_is) (list-first (goal.at.returns-in_ok-keep_list-clause-goes_on c).In_ok-keep_list).rests.goes_on
