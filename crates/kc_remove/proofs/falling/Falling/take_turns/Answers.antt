-- No more fall than there are vertices, so the turns come to an end, and then as many are done as the list has.
use Rattle.std.proofs.Common.{◌≡◌, ◌≤◌, ◌<◌, ℕ, length, subst, arith}
use Rattle.kc_view.proofs.Keeping.{GoesOn-trans, answers-agreed}
use Rattle.kc_remove.specs.Cascade.{nobody}
use Rattle.kc_remove.specs.Falling.{FallsIn}
use Rattle.kc_remove.proofs.Tidy.{list-fits}
use Rattle.kc_remove.proofs.falling.Falling.take_turns.Goals as goal

pub loop-place-smaller : goal.loop-place-smaller
loop-place-smaller g c =
    let i = c.loop-place.invariant in
    let fits : length c.loop-place.self.seen.weak.items ≤ (g.V.View.shown c.loop-place.view).size =
    list-fits c.args.search.update (g.V.View.shown c.loop-place.view) c.loop-place.self i.tidy in
    let l : c.loop-place.place < length c.loop-place.self.seen.weak.items =
    omega (arith, c.len.ensures, c.loop-place-test.true, c.loop-place.self.seen.weak.ok.0) in
    omega (arith, fits, l, i.goes_on.lasts.same_size)

pub loop-place-preserved : goal.loop-place-preserved
loop-place-preserved g c =
    let i = c.loop-place.invariant in
    let o = c.in_ok-take_turn.ensures in
    let e = c.take_turn.ensures.goes_on in
    record {
      goes_on = GoesOn-trans _ _ _ i.goes_on e;
      tidy = o.tidy;
      still = λ z v. o.still z (i.still z v);
      place_in = omega (arith, o.longer);
      falls = λ s a f. o.falls s a (i.falls s (answers-agreed _ _ s e.further a) f);
    }

pub returns-clause-falls : goal.returns-clause-falls
returns-clause-falls g c = λ s a f.
    let i = c.loop-place.invariant in
    let e : c.loop-place.place ≡ length c.loop-place.self.seen.weak.items =
    omega (arith, i.place_in, c.len.ensures, c.loop-place-test.false, c.loop-place.self.seen.weak.ok.0) in
    subst (λ (n : ℕ). FallsIn c.args.search.update c.args.search.level s c.loop-place.self n nobody) e (i.falls s a f)
