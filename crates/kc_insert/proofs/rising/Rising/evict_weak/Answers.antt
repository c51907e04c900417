-- One more is evicted each turn, and no more are weak than there are vertices; once all weak are evicted the settling is over.
use Rattle.std.proofs.Common.{◌≤◌, ◌<◌, ◌∙◌, length, arith}
use Rattle.kc_view.proofs.Keeping.{GoesOn-trans, answers-agreed}
use Rattle.kc_insert.proofs.Evicting.{settled-between}
use Rattle.kc_insert.proofs.Tidy.{weak-fits}
use Rattle.kc_insert.proofs.rising.Rising.evict_weak.Goals as goal

pub loop-search-smaller : goal.loop-search-smaller
loop-search-smaller g c =
    let i = c.loop-search.invariant in
    let r = c.loop-search.self in
    let fits : length r.seen.weak.items ≤ (g.V.View.shown c.loop-search.view).size =
    weak-fits c.args.search.update (g.V.View.shown c.loop-search.view) r i.tidy in
    let l : length r.shifts.items < length r.seen.weak.items =
    omega (arith, c.len.ensures, c.len-in-loop-search.ensures, c.loop-search-test.true, r.shifts.ok.0, r.seen.weak.ok.0) in
    omega (arith, fits, l, i.goes_on.lasts.same_size, c.in_ok-anchor.ensures.one)

pub loop-search-preserved : goal.loop-search-preserved
loop-search-preserved g c =
    let i = c.loop-search.invariant in
    let o = c.in_ok-anchor.ensures in
    record {
      goes_on = GoesOn-trans _ _ _ i.goes_on o.goes_on;
      tidy = o.tidy;
      anchor = o.evicted;
      read = o.read;
      turn = o.turn ∙ i.turn;
      settling = λ s root a w st. o.settling s root a w (i.settling s root (answers-agreed _ _ s o.goes_on.further a) w st);
    }

pub returns-clause-settled : goal.returns-clause-settled
returns-clause-settled g c = λ s root a w st.
    let i = c.loop-search.invariant in
    let r = c.loop-search.self in
    let le : length r.seen.weak.items ≤ length r.shifts.items =
    omega (arith, c.len.ensures, c.len-in-loop-search.ensures, c.loop-search-test.false, r.shifts.ok.0, r.seen.weak.ok.0) in
    settled-between _ root c.loop-search.anchor r i.tidy.orderly le (i.settling s root a w st)
