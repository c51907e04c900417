-- The places before the one that is looked at are current; the first that is less ends the loop.
use Rattle.std.proofs.Common.{get_or, take, drop, suc, arith, subst, take_all, refl}
use Rattle.std.specs.Prelude.{All}
use Rattle.std.proofs.Math.Seq.{split_at}
use Rattle.std.proofs.lemmas.List.Elements.{All-more}
use Rattle.kc_graph.specs.declared.used.UsedPlace.{UsedPlace}
use Rattle.kc_agree.specs.Stale.{IsPlaceCurrent}
use Rattle.kc_agree.proofs.stale.first_stale_place.Goals as goal

pub returns-then-place-now : goal.returns-then-place-now
returns-then-place-now c =
    let i = c.loop-place.place-index in
    let none : UsedPlace = record { vertex = 0; stamp = 0; core = 0 } in
    record {
      front = take i c.args.places.now;
      place = get_or c.args.places.now i none;
      back = drop (suc i) c.args.places.now;
      is = split_at c.args.places.now i none c.loop-place-test.true;
      current = c.loop-place.invariant;
      less = c.if-place-now.true;
      named = refl;
    }

pub loop-place-preserved : goal.loop-place-preserved
loop-place-preserved c =
    let i = c.loop-place.place-index in
    let none : UsedPlace = record { vertex = 0; stamp = 0; core = 0 } in
    All-more (IsPlaceCurrent c.args.place_stamps.now) c.args.places.now i none c.loop-place-test.true c.loop-place.invariant
    (omega (arith, c.if-place-now.false))

pub returns : goal.returns
returns c =
    let all = take_all c.loop-place.place-index c.args.places.now (omega (arith, c.loop-place-test.false)) in
    subst (All (IsPlaceCurrent c.args.place_stamps.now)) all c.loop-place.invariant
