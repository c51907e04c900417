-- A first call keeps the core number that the state has; a later one finds that it was kept.
use Rattle.std.proofs.Common.{ℕ, List, get_or, ap}
use Rattle.kc_view.proofs.AtRest.{FirstCore, first_core, core_again, lists-true}
use Rattle.kc_view.proofs.plain.PlainViewView.core.Goals.{In_ok-keep_place}
use Rattle.kc_view.proofs.plain.PlainViewView.core.Goals as goal

-- what the first call leaves
core-first : (c : In_ok-keep_place) → FirstCore c.self.inside.state.now
    (record { edges = c.self.inside.edges.items; places = c.self.inside.places.items; orders = c.self.inside.orders.items })
    c.self.inside.handed c.self.inside.is_listed.items c.self.inside.is_placed.items
    (record { vertex = c.args.w; stamp = 0; core = get_or c.core.result.now c.args.w 0 })
core-first c =
    first_core c.self.invariant c.self.view_is _ _ c.requires (ap (λ (xs : List ℕ). get_or xs c.args.w 0) c.core.ensures.core) c.index.ensures
    c.if-not-index.true

pub invariant_of-self-then-not-index : goal.invariant_of-self-then-not-index
invariant_of-self-then-not-index c =
    rw c.in_ok-keep_place.ensures.ok (core-first (goal.at.invariant_of-self-then-not-index c).In_ok-keep_place).rests.keeps

pub returns-in_ok-keep_place-clause-told : goal.returns-in_ok-keep_place-clause-told
returns-in_ok-keep_place-clause-told c =
    rw (c.in_ok-keep_place.ensures.ok, ← c.self.view_is) (core-first (goal.at.returns-in_ok-keep_place-clause-told c).In_ok-keep_place).tells.told

pub returns-in_ok-keep_place-clause-core : goal.returns-in_ok-keep_place-clause-core
returns-in_ok-keep_place-clause-core c =
    rw c.in_ok-keep_place.ensures.ok (core-first (goal.at.returns-in_ok-keep_place-clause-core c).In_ok-keep_place).tells.core

pub returns-else-not-index-clause-core : goal.returns-else-not-index-clause-core
returns-else-not-index-clause-core c =
    rw (← c.self.view_is)
    (core_again c.self.invariant c.self.view_is c.args.w _ _ c.requires (ap (λ (xs : List ℕ). get_or xs c.args.w 0) c.core.ensures.core)
    c.index.ensures c.if-not-index.false)

pub returns-in_err-keep_place-clause-lists : goal.returns-in_err-keep_place-clause-lists
returns-in_err-keep_place-clause-lists c = lists-true _ c.self.inside.state.now c.self.invariant.agrees

pub returns-in_ok-keep_place-clause-lists : goal.returns-in_ok-keep_place-clause-lists
returns-in_ok-keep_place-clause-lists c = lists-true _ c.self.inside.state.now c.self.invariant.agrees

pub returns-else-not-index-clause-lists : goal.returns-else-not-index-clause-lists
returns-else-not-index-clause-lists c = rw (← c.self.view_is) (lists-true _ c.self.inside.state.now c.self.invariant.agrees)

pub returns-in_ok-keep_place-clause-goes_on : goal.returns-in_ok-keep_place-clause-goes_on
returns-in_ok-keep_place-clause-goes_on c =
    rw (c.in_ok-keep_place.ensures.ok, ← c.self.view_is) (core-first (goal.at.returns-in_ok-keep_place-clause-goes_on c).In_ok-keep_place).rests.goes_on
