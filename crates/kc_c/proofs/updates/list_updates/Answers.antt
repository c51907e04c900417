-- The present update is listed, or is a loop and passed over.
use Rattle.std.proofs.Common.{◌+◌, sym, subst, take}
use Rattle.kc_c.specs.Listing.{AreListed}
use Rattle.kc_c.specs.declared.updates.Listed.{Listed}
use Rattle.kc_c.proofs.GivenInTurn.{listed-next, listed-skip}
use Rattle.kc_c.proofs.updates.list_updates.Goals as goal
use Rattle.kc_c.proofs.updates.list_updates.Goals.{in-Some+in_ok-push+in_ok-push-2, in_default}

pub loop-place-preserved : goal.loop-place-preserved
loop-place-preserved c = elim c.match-update_of.branch [
  | in-Some+in_ok-push+in_ok-push-2 w ↦
      subst (λ (l : Listed). AreListed (take (c.loop-place.place + 1) c.args.given.now) l.updates.items l.places.items) (sym w.listed-is)
      (listed-next c.args.given.now _ w.in-Some.update c.loop-place-test.true w.in-Some.ensures c.loop-place.invariant w.in_ok-push.ensures.items
      w.in_ok-push-2.ensures.items)
  | in_default w ↦
      subst (λ (l : Listed). AreListed (take (c.loop-place.place + 1) c.args.given.now) l.updates.items l.places.items) (sym w.listed-is)
      (listed-skip c.args.given.now _ c.loop-place-test.true w.in_default.ensures c.loop-place.invariant)
]
