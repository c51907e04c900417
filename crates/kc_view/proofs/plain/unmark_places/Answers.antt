-- The next place is of a vertex that has a mark, and to clear it changes the mark of that vertex alone.
use Rattle.std.proofs.Common.{◌<◌, ℕ, false, length, get_or, arith}
use Rattle.std.proofs.lemmas.List.{get_or_default}
use Rattle.kc_graph.specs.declared.used.UsedPlace.{UsedPlace}
use Rattle.kc_view.proofs.Lookups.{core_answers, cleared-next}
use Rattle.kc_view.proofs.plain.unmark_places.Goals as goal

pub loop-place-preserved : goal.loop-place-preserved
loop-place-preserved c =
    let none : UsedPlace = record { vertex = 0; stamp = 0; core = 0 } in
    let p : UsedPlace = get_or c.args.places.now c.loop-place.place-index none in
    let within : p.vertex < length c.args.is_placed.now = c.requires c.loop-place.place-index none c.loop-place-test.true in
    cleared-next core_answers false c.loop-place.is_placed (λ (w : ℕ). get_or c.args.is_placed.now w false) c.args.places.now c.loop-place.place-index p
    c.loop-place-test.true (get_or_default c.args.places.now c.loop-place.place-index none p c.loop-place-test.true) (omega arith) c.loop-place.invariant
