-- The list has each neighbour once, so the turn comes to the next for the first time, and is over once it has come to all.
use Rattle.std.proofs.Common.{ℕ, List, take, sym, ◌∙◌, ap, subst, arith}
use Rattle.std.proofs.Math.Seq.{take-length}
use Rattle.kc_view.specs.Answers.{list_of}
use Rattle.kc_view.proofs.Keeping.{GoesOn-trans, still_has_list, same_list, answers-agreed, list-true}
use Rattle.kc_remove.specs.Removed.{has_come}
use Rattle.kc_remove.specs.Falling.{FallsIn}
use Rattle.kc_remove.proofs.Listed.{listed-stands}
use Rattle.kc_remove.proofs.Stepping.{turn-over}
use Rattle.kc_remove.proofs.falling.Falling.come_to_each.Goals as goal

pub come_to-requires-clause-vertex : goal.come_to-requires-clause-vertex
come_to-requires-clause-vertex g c =
    let i = c.loop-i.invariant in
    let r = c.requires in
    (listed-stands _ _ _ _ _ i.goes_on (i.goes_on.lists r.lists) r.read c.list.ensures (omega (arith, r.degree, c.loop-i-test.true))).vertex

pub loop-i-preserved : goal.loop-i-preserved
loop-i-preserved g c =
    let i = c.loop-i.invariant in
    let r = c.requires in
    let e = c.come_to.ensures.goes_on in
    let o = c.in_ok-come_to.ensures in
    let y = listed-stands _ _ _ _ _ i.goes_on (i.goes_on.lists r.lists) r.read c.list.ensures (omega (arith, r.degree, c.loop-i-test.true)) in
    record {
      goes_on = GoesOn-trans _ _ _ i.goes_on e;
      read = still_has_list _ _ c.args.turn.vertex e.further i.read;
      row = same_list _ _ c.args.turn.vertex e.further i.read ∙ i.row;
      tidy = o.tidy;
      still = λ z v. o.still z (i.still z v);
      longer = o.longer;
      at = o.at;
      falls = λ s a f.
          subst (λ (xs : List ℕ). FallsIn c.args.search.update c.args.search.level s c.come_to.new.self c.args.turn.place
          (has_come c.args.search.update s c.args.turn.vertex xs)) (sym y.seam) (o.falls s _ a y.first (i.falls s (answers-agreed _ _ s e.further a) f));
    }

pub returns-clause-falls : goal.returns-clause-falls
returns-clause-falls g c = λ s a f.
    let i = c.loop-i.invariant in
    let row = list_of (g.V.View.shown c.args.view.now).kept c.args.turn.vertex in
    let all = ap (λ n. take n row) (omega (arith, c.loop-i-test.false, c.loop-i.auto.i-end, c.requires.degree)) ∙ take-length row in
    turn-over c.args.search.update c.args.search.level s c.args.turn.place c.args.turn.vertex row c.loop-i.self i.longer i.at
    (list-true _ s c.args.turn.vertex (answers-agreed _ _ s i.goes_on.further a) c.requires.read).1
    (subst (λ (xs : List ℕ). FallsIn c.args.search.update c.args.search.level s c.loop-i.self c.args.turn.place
    (has_come c.args.search.update s c.args.turn.vertex xs)) all (i.falls s a f))
