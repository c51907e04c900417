-- The pen is made where the head is the one expected.
use Rattle.std.proofs.Common.{[], sym, ◌∙◌, ap, refl}
use Rattle.kc_snapshot.specs.Histories.{member}
use Rattle.kc_snapshot.proofs.Moves.{pen_moves}
use Rattle.kc_snapshot.proofs.steps.prepare.Goals as goal

pub compare_exchange-found-requires : goal.compare_exchange-found-requires
compare_exchange-found-requires c =
    let h = c.requires.head in
    let same = ap (λ s. s.book) c.again-later.ensures in
    let offer = c.plain-offer.ensures in
    let pen = c.no_pen-pen.ensures in (
      ap (λ w. w.tracked) h,
      same ∙ sym (ap (λ w. w.book) h),
      pen.0 ∙ (same ∙ sym (ap (λ w. w.book) h)),
      offer.0,
      rw (ap (λ w. w.key) h, pen.1, offer.3) (pen_moves _ (member []) c.args.members c.args.pens _ c.requires.few.0 refl),
    )
