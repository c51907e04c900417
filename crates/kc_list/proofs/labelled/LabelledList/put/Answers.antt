-- The new word of `x` is in the gap right after `p`, and no other item changes.
use Rattle.std.proofs.Common.{◌+◌, arith, ap, sym, ◌∙◌, refl, eqb, not}
use Rattle.kc_words.specs.declared.item.ItemWord.{ItemWord}
use Rattle.kc_lists.proofs.Members.{without-member, not_member-without}
use Rattle.kc_list.proofs.Putting.{in_by_group, put_stored}
use Rattle.kc_list.proofs.labelled.LabelledList.put.Goals as goal
use Rattle.kc_list.proofs.labelled.LabelledList.put.Goals.{After-pack, After-store}

pub take_out-requires : goal.take_out-requires
take_out-requires c = ap (λ w. not (eqb w.group 0)) c.item-old.ensures
    ∙ in_by_group c.args.self.now.links.size c.args.self.now.sheet.words c.args.self.now.links.list c.args.x c.args.self.now.sound c.requires.x_within

pub insert_after-requires-clause-p_in : goal.insert_after-requires-clause-p_in
insert_after-requires-clause-p_in c = rw c.take_out.ensures.list
    (without-member c.args.p c.args.x c.args.self.now.links.list c.requires.fits.p_in (λ e. c.requires.differ (sym e)))

pub insert_after-requires-clause-x_out : goal.insert_after-requires-clause-x_out
insert_after-requires-clause-x_out c = rw c.take_out.ensures.list (not_member-without c.args.x c.args.self.now.links.list)

pub pack-requires : goal.pack-requires
pack-requires c =
    let v = ap (λ w. w.version) c.item-old.ensures in
    let w : ItemWord = record { version = c.item-old.result.version + 1; group = c.item-here.result.group; bottom = c.args.label } in
    (put_stored c.args.self.now.links.size c.args.self.now.sheet.words c.args.self.now.links.list c.args.x c.args.p c.args.label w c.args.self.now.sound
    c.args.self.now.small c.requires.fits.p_in c.requires.x_within c.requires.differ c.requires.fits.low c.requires.fits.high
    (omega (arith, v, c.requires.version)) (ap (λ w. w.group) c.item-here.ensures) refl).0

pub invariant_of-self-clause-sound : goal.invariant_of-self-clause-sound
invariant_of-self-clause-sound c =
    let v = ap (λ w. w.version) c.item-old.ensures in
    let w : ItemWord = record { version = c.item-old.result.version + 1; group = c.item-here.result.group; bottom = c.args.label } in
    rw (c.insert_after.ensures.size, c.take_out.ensures.size, c.insert_after.ensures.list, c.take_out.ensures.list, c.store.ensures.words, c.pack.ensures.word)
    (put_stored c.args.self.now.links.size c.args.self.now.sheet.words c.args.self.now.links.list c.args.x c.args.p c.args.label w c.args.self.now.sound
    c.args.self.now.small c.requires.fits.p_in c.requires.x_within c.requires.differ c.requires.fits.low c.requires.fits.high
    (omega (arith, v, c.requires.version)) (ap (λ w. w.group) c.item-here.ensures) refl).1
