-- The history has as many lists as the pen says, which its owner has seen all: so what another has seen begins these.
use Rattle.std.proofs.Common.{◌+◌, ◌≤◌, List, [], length, sym, ◌∙◌, ap, subst, arith}
use mathlib.Core.List.{IsPrefix}
use Rattle.kc_snapshot.specs.declared.member.Member.{Member}
use Rattle.kc_snapshot.specs.Histories.{member}
use Rattle.kc_snapshot.proofs.Prefixes.{prefix_length}
use Rattle.kc_snapshot.proofs.Cells.{nib_is}
use Rattle.kc_snapshot.proofs.Moves.{length_moves}
use Rattle.kc_snapshot.proofs.steps.check.Goals as goal

pub compare_exchange-requires : goal.compare_exchange-requires
compare_exchange-requires c =
    let h = c.requires.head in
    let offer = c.plain-offer.ensures in
    let pen = c.requires.pen in
    let members = c.requires.members in
    let both = c.learn.new.self.log in
    let mine : IsPrefix c.args.mine.now.log both = subst (λ (l : List Member). IsPrefix l both) (ap (λ s. s.log) c.again-both.ensures) c.learn.ensures.2 in
    let long : length c.args.mine.now.log ≤ length both = prefix_length _ _ mine in
    let same = c.learn.ensures.0 ∙ (ap (λ s. s.book) c.again-both.ensures ∙ sym (ap (λ w. w.book) h)) in (
      ap (λ w. w.tracked) h,
      same,
      pen.0 ∙ sym (ap (λ w. w.book) h),
      offer.0,
      rw (ap (λ w. w.key) h, nib_is c.args.pen.now.nib (c.args.members + 2) pen.1 pen.2 pen.3, offer.3)
          (length_moves _ (member []) (c.args.members + 2) (omega (arith, members.0))),
    )
