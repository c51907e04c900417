-- Who has the pen has seen the whole history, so the list is added behind it.
use Rattle.std.proofs.Common.{◌+◌, sym, ◌∙◌, ap, arith}
use Rattle.kc_snapshot.proofs.Cells.{nib_is}
use Rattle.kc_snapshot.proofs.Moves.{list_moves}
use Rattle.kc_snapshot.proofs.steps.add.Goals as goal

pub compare_exchange-found-requires : goal.compare_exchange-found-requires
compare_exchange-found-requires c =
    let h = c.requires.head in
    let offer = c.plain-offer.ensures in
    let pen = c.requires.pen in
    let members = c.requires.members in (
      ap (λ w. w.tracked) h,
      sym (ap (λ w. w.book) h),
      pen.0 ∙ sym (ap (λ w. w.book) h),
      offer.0,
      rw (ap (λ w. w.key) h, nib_is c.args.pen.now.nib (c.args.members + 2) pen.1 pen.2 pen.3, offer.3)
          (list_moves _ _ (c.args.members + 2) _ (omega (arith, members.0)) (omega (arith, members.0))),
    )
