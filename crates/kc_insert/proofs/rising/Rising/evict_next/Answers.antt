-- The first weak candidate not evicted yet has left the queue; put behind `anchor`, with its neighbours' losses, it is one eviction.
use Rattle.std.proofs.Common.{true, length, get_or, ◌≡◌, ℕ, List, sym, ◌∙◌, ap, subst, inl, inr}
use Rattle.kc_lists.specs.Lists.{member, Distinct}
use Rattle.kc_graph.proofs.RowsLemmas.{Distinct-from_increasing}
use Rattle.kc_view.specs.Answers.{has_list}
use Rattle.kc_view.proofs.Keeping.{still_has_list}
use Rattle.kc_insert.specs.Rising.{turn_at}
use Rattle.kc_insert.specs.Turns.{Loses}
use Rattle.kc_insert.specs.declared.rising.Rising.{Rising}
use Rattle.kc_insert.specs.declared.losing.Loss.TheVariants as loss
use Rattle.kc_insert.proofs.Evicting.{next-weak, next-left, evict-orderly, loses-named, evicts-named, stays-tidy, evicted-now}
use Rattle.kc_insert.proofs.Rows.{row-is}
use Rattle.kc_insert.proofs.Tidy.{left-queued, tidy-view}
use Rattle.kc_insert.proofs.rising.Rising.evict_next.Given.{Over}
use Rattle.kc_insert.proofs.rising.Rising.evict_next.Goals.{After-index-x}
use Rattle.kc_insert.proofs.rising.Rising.evict_next.Goals as goal

-- `x` is the first weak candidate that is not evicted yet, and was queued
record IsNextWeak (r : Rising) (x : ℕ) : Type 0 where
  first : get_or r.seen.weak.items (length r.shifts.items) 0 ≡ x
  queued : member x r.queue.items ≡ true

-- so is the one that was read
is-next : (g : Over) (c : After-index-x g) → IsNextWeak c.args.self.now c.index-x.result.now
is-next g c =
    let old = c.args.self.now in
    let x = c.index-x.result.now in
    let first : get_or old.seen.weak.items (length old.shifts.items) 0 ≡ x =
    next-weak old c.len.result x c.len.ensures c.requires.some c.index-x.ensures in
    record { first = first; queued = left-queued old x (next-left old x c.requires.tidy.orderly c.requires.some first) }

pub fill_row-requires-clause-vertex : goal.fill_row-requires-clause-vertex
fill_row-requires-clause-vertex g c =
    c.requires.tidy.within c.index-x.result.now (is-next g (goal.at.fill_row-requires-clause-vertex g c).After-index-x).queued

pub lose_each-requires-clause-once : goal.lose_each-requires-clause-once
lose_each-requires-clause-once g c =
    subst Distinct (sym c.deref.ensures.value) (Distinct-from_increasing c.fill_row.new.row.items c.in_ok-fill_row.ensures.row.ascends)

pub lose_each-requires-clause-orderly : goal.lose_each-requires-clause-orderly
lose_each-requires-clause-orderly g c =
    evict-orderly c.index-x.result.now c.args.anchor c.args.self.now c.evict.new.self c.requires.tidy.orderly c.in_ok-turn.ensures.evicts
    c.requires.some (is-next g (goal.at.lose_each-requires-clause-orderly g c).After-index-x).first c.requires.anchor

pub returns-clause-tidy : goal.returns-clause-tidy
returns-clause-tidy g c =
    let update = c.args.search.update in
    let queue = c.args.self.now.queue.items in
    let now = g.V.View.shown c.fill_row.new.view in
    let t = c.requires.tidy in
    let e = c.in_ok-fill_row.ensures in
    let ev = c.in_ok-turn.ensures.evicts in
    let l = c.in_ok-lose_each.ensures in
    let asks = e.asks queue t.asks (inr (is-next g (goal.at.returns-clause-tidy g c).After-index-x).queued) in
    stays-tidy update now c.args.self.now c.lose_each.new.self
    (tidy-view update (g.V.View.shown c.args.view.now) now c.args.self.now t e.goes_on.lasts.same_size e.goes_on.further asks) l.orderly
    (l.loses.queue ∙ ev.queue) (λ z n.
    elim (evicts-named c.index-x.result.now c.args.anchor c.args.self.now c.evict.new.self ev z (loses-named _ _ _ _ _ l.loses z n)) [
      | inl k ↦ inl k
      | inr is ↦ inr (ap (has_list now.kept) is ∙ still_has_list _ _ c.args.anchor e.goes_on.further c.requires.read)
    ])

pub returns-clause-settling : goal.returns-clause-settling
returns-clause-settling g c = λ s root a w st.
    let old = c.args.self.now in
    let mid = c.evict.new.self in
    let new = c.lose_each.new.self in
    let row = c.fill_row.new.row.items in
    let x = c.index-x.result.now in
    let level = c.args.search.level in
    let filled = c.in_ok-fill_row.ensures in
    let lost = c.in_ok-lose_each.ensures in
    let turn : c.in_ok-turn.turn ≡ turn_at old x = c.in_ok-turn.ensures.turn in
    let loses : Loses level (loss.Evicted (turn_at old x)) row mid new =
    subst (λ (n : ℕ). Loses level (loss.Evicted n) row mid new) turn
    (subst (λ (xs : List ℕ). Loses level (loss.Evicted c.in_ok-turn.turn) xs mid new) c.deref.ensures.value lost.loses) in (
      st.0,
      evicted-now _ root x c.args.anchor st.0 row old mid new w c.requires.tidy.orderly lost.orderly c.in_ok-turn.ensures.evicts loses c.requires.some
          (is-next g (goal.at.returns-clause-settling g c).After-index-x).first
          (row-is _ s c.args.search.update x row a filled.told.told filled.has) st.1,
    )
