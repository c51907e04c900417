-- What was collected is a front of the group, and the walk goes on right behind it.
use Rattle.std.proofs.Common.{◌<◌, ℕ, arith, ap, sym, ◌∙◌, refl, length, take, inl, inr, subst, List}
use Rattle.std.proofs.lemmas.List.{take_more_set, length-set, length-take-le}
use Rattle.kc_words.specs.Order.{labels}
use Rattle.kc_list.proofs.Gathering.{Collected, collected-none, collect_in, collect_step, collecting-begun, members-gathered}
use Rattle.kc_list.proofs.labelled.LabelledList.collect_from.Goals as goal

pub loop-x-init : goal.loop-x-init
loop-x-init c = (
  collected-none c.args.self.now.links.size (labels c.args.self.now.links.size c.args.self.now.sheet.words) c.args.self.now.links.list c.args.group c.args.first
      c.requires.first,
  omega arith,
  inl (refl, refl),
)

pub item-requires : goal.item-requires
item-requires c = omega (
  arith,
  (collect_in c.args.self.now.links.size c.args.self.now.sheet.words c.args.self.now.links.list c.args.group c.loop-x.x (take c.loop-x.count c.loop-x.into)
      c.args.self.now.sound c.loop-x.invariant.0 (λ e. c.loop-x-test.true (e ∙ sym c.size.ensures))).1,
  c.args.self.now.sound.size,
)

pub bounds-into-count : goal.bounds-into-count
bounds-into-count c =
    let s = collect_step c.args.self.now.links.size c.args.self.now.sheet.words c.args.self.now.links.list c.args.group c.loop-x.x
    (take c.loop-x.count c.loop-x.into)
    c.args.self.now.sound c.loop-x.invariant.0 (λ e. c.loop-x-test.true (e ∙ sym c.size.ensures))
    (sym (ap (λ w. w.group) c.item.ensures) ∙ c.if-item-group.true) in
    omega (arith, s.size, length-take-le c.loop-x.count c.loop-x.into c.loop-x.invariant.1, c.requires.room)

pub next-x-requires : goal.next-x-requires
next-x-requires c = (collect_in c.args.self.now.links.size c.args.self.now.sheet.words c.args.self.now.links.list c.args.group c.loop-x.x
    (take c.loop-x.count c.loop-x.into) c.args.self.now.sound c.loop-x.invariant.0 (λ e. c.loop-x-test.true (e ∙ sym c.size.ensures))).0

pub loop-x-preserved : goal.loop-x-preserved
loop-x-preserved c =
    let s = collect_step c.args.self.now.links.size c.args.self.now.sheet.words c.args.self.now.links.list c.args.group c.loop-x.x
    (take c.loop-x.count c.loop-x.into)
    c.args.self.now.sound c.loop-x.invariant.0 (λ e. c.loop-x-test.true (e ∙ sym c.size.ensures))
    (sym (ap (λ w. w.group) c.item.ensures) ∙ c.if-item-group.true) in
    let room : c.loop-x.count < length c.loop-x.into =
    omega (arith, s.size, length-take-le c.loop-x.count c.loop-x.into c.loop-x.invariant.1, c.requires.room) in
    let P : List ℕ → Type 0 = λ m. Collected c.args.self.now.links.size (labels c.args.self.now.links.size c.args.self.now.sheet.words)
    c.args.self.now.links.list c.args.group
    c.next-x.result m in (
      subst P (sym (take_more_set c.loop-x.into c.loop-x.count c.loop-x.x room)) (rw c.next-x.ensures s.more),
      omega (arith, length-set c.loop-x.into c.loop-x.count c.loop-x.x),
      inr (collecting-begun c.loop-x.x c.loop-x.count c.args.first c.loop-x.into room c.loop-x.invariant.2),
    )

pub returns-else-item-group-clause-segment : goal.returns-else-item-group-clause-segment
returns-else-item-group-clause-segment c =
    members-gathered c.args.self.now.links.size c.args.self.now.sheet.words c.args.self.now.links.list c.args.group c.loop-x.x
    c.args.first c.loop-x.count c.loop-x.into
    c.args.self.now.sound c.requires.first c.loop-x.invariant.0
    (λ _ e. c.if-item-group.false (ap (λ w. w.group) c.item.ensures ∙ e)) c.loop-x.invariant.2

pub returns-after-loop-x-clause-segment : goal.returns-after-loop-x-clause-segment
returns-after-loop-x-clause-segment c =
    members-gathered c.args.self.now.links.size c.args.self.now.sheet.words c.args.self.now.links.list c.args.group c.loop-x.x
    c.args.first c.loop-x.count c.loop-x.into
    c.args.self.now.sound c.requires.first c.loop-x.invariant.0
    (λ ne _. ne (c.loop-x-test.false ∙ c.size.ensures)) c.loop-x.invariant.2

pub loop-x-smaller : goal.loop-x-smaller
loop-x-smaller c =
    let s = collect_step c.args.self.now.links.size c.args.self.now.sheet.words c.args.self.now.links.list c.args.group c.loop-x.x
    (take c.loop-x.count c.loop-x.into)
    c.args.self.now.sound c.loop-x.invariant.0 (λ e. c.loop-x-test.true (e ∙ sym c.size.ensures))
    (sym (ap (λ w. w.group) c.item.ensures) ∙ c.if-item-group.true) in
    omega (arith, s.length_less, length-take-le c.loop-x.count c.loop-x.into c.loop-x.invariant.1)
