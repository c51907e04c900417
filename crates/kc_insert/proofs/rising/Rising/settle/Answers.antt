-- `w` leaves the queue as no candidate and its neighbours lose by it, which begins a settling; the evictions bring it to its end.
use Rattle.std.proofs.Common.{◌≡◌, ◌∙◌, ℕ, List, false, sym, ap, subst, inl, true≢false}
use Rattle.std.proofs.lemmas.Result.{on_ok_weaker}
use Rattle.kc_lists.specs.Lists.{Distinct}
use Rattle.kc_graph.proofs.RowsLemmas.{Distinct-from_increasing}
use Rattle.kc_view.proofs.Keeping.{answers-agreed}
use Rattle.kc_insert.specs.Turns.{Loses}
use Rattle.kc_insert.specs.declared.losing.Loss.TheVariants as loss
use Rattle.kc_insert.specs.declared.rising.Mark.{Mark}
use Rattle.kc_insert.proofs.Evicting.{loses-named, stays-tidy, settled-now}
use Rattle.kc_insert.proofs.Rows.{row-is}
use Rattle.kc_insert.proofs.Tidy.{leave-orderly, leave-tidy}
use Rattle.kc_insert.proofs.rising.Rising.settle.Goals as goal

pub lose_each-requires-clause-once : goal.lose_each-requires-clause-once
lose_each-requires-clause-once g c = subst Distinct (sym c.deref.ensures.value) (Distinct-from_increasing c.args.row.now.items c.requires.row.ascends)

pub lose_each-requires-clause-orderly : goal.lose_each-requires-clause-orderly
lose_each-requires-clause-orderly g c =
    let r = c.requires in
    let plain : c.past.result.is_candidate ≡ false = ap (λ (m : Mark). m.is_candidate) c.past.ensures in
    leave-orderly c.args.w c.past.result c.args.self.now c.leave.new.self r.tidy.orderly c.in_ok-leave.ensures r.turn r.first
    (λ k. absurd (true≢false (sym k ∙ plain))) (ap (λ (m : Mark). m.is_weak) c.past.ensures)

pub evict_weak-requires-clause-tidy : goal.evict_weak-requires-clause-tidy
evict_weak-requires-clause-tidy g c =
    let r = c.requires in
    let l = c.in_ok-lose_each.ensures in
    let plain : c.past.result.is_candidate ≡ false = ap (λ (m : Mark). m.is_candidate) c.past.ensures in
    let t =
    leave-tidy c.args.search.update (g.V.View.shown c.args.view.now) c.args.w c.past.result c.args.self.now c.leave.new.self r.tidy
    c.in_ok-leave.ensures r.turn r.first
    (λ k. absurd (true≢false (sym k ∙ plain))) (ap (λ (m : Mark). m.is_weak) c.past.ensures) (λ _. r.read) in
    stays-tidy c.args.search.update (g.V.View.shown c.args.view.now) c.leave.new.self c.lose_each.new.self t l.orderly l.loses.queue
    (λ z n. inl (loses-named _ _ _ _ _ l.loses z n))

pub returns-clause-settled : goal.returns-clause-settled
returns-clause-settled g c =
    let r = c.requires in
    let l = c.in_ok-lose_each.ensures in
    let plain : c.past.result.is_candidate ≡ false = ap (λ (m : Mark). m.is_candidate) c.past.ensures in
    let loses : Loses c.args.search.level loss.Settled c.args.row.now.items c.leave.new.self c.lose_each.new.self =
    subst (λ (xs : List ℕ). Loses c.args.search.level loss.Settled xs c.leave.new.self c.lose_each.new.self) c.deref.ensures.value l.loses in
    on_ok_weaker c.evict_weak.result (λ settled s root a w few between.
    let first = answers-agreed _ _ s c.evict_weak.ensures.goes_on.further a in
    settled s root a w
    (settled-now _ root c.args.w c.past.result c.args.row.now.items c.args.self.now c.leave.new.self c.lose_each.new.self w r.tidy.orderly
    l.orderly c.in_ok-leave.ensures plain loses r.turn r.first
    (row-is _ s c.args.search.update c.args.w c.args.row.now.items first r.read r.has) few between)) c.evict_weak.ensures.settled
