-- The groups of the items so far are collected, and `last` is the group of the item before.
use Rattle.std.proofs.Common.{◌<◌, ℕ, arith, ap, sym, ◌∙◌, length, take, subst, List}
use Rattle.std.proofs.lemmas.List.{take_more_set, length-set, length-take-le}
use Rattle.kc_words.specs.Order.{labels}
use Rattle.kc_list.proofs.Groupings.{Grouped, grouped-none, group_step, grouped-same, grouped-new, grouped-all}
use Rattle.kc_list.proofs.labelled.LabelledList.collect_groups.Goals as goal
use Rattle.kc_list.proofs.labelled.LabelledList.collect_groups.Goals.{then-group-last, else-group-last}

pub loop-x-init : goal.loop-x-init
loop-x-init c = (
  rw c.first-x.ensures (grouped-none c.args.self.now.links.size c.args.self.now.sheet.words c.args.self.now.links.list c.args.self.now.sound),
  omega arith,
)

pub item-group-requires : goal.item-group-requires
item-group-requires c = omega (
  arith,
  (group_step c.args.self.now.links.size c.args.self.now.sheet.words c.args.self.now.links.list c.loop-x.x c.loop-x.last (take c.loop-x.count c.loop-x.into)
      c.args.self.now.sound c.loop-x.invariant.0 (λ e. c.loop-x-test.true (e ∙ sym c.size.ensures))).below,
  c.args.self.now.sound.size,
)

pub bounds-into-count : goal.bounds-into-count
bounds-into-count c =
    let g = grouped-new c.args.self.now.links.size c.args.self.now.sheet.words c.args.self.now.links.list c.loop-x.x c.loop-x.last
    (take c.loop-x.count c.loop-x.into)
    c.args.self.now.sound c.loop-x.invariant.0 (λ e. c.loop-x-test.true (e ∙ sym c.size.ensures))
    (λ e. c.if-group-last.true ((ap (λ w. w.group) c.item-group.ensures) ∙ e)) in
    omega (arith, g.1, length-take-le c.loop-x.count c.loop-x.into c.loop-x.invariant.1, c.requires.room)

pub next-x-requires : goal.next-x-requires
next-x-requires c = (group_step c.args.self.now.links.size c.args.self.now.sheet.words c.args.self.now.links.list c.loop-x.x c.loop-x.last
    (take c.loop-x.count c.loop-x.into) c.args.self.now.sound c.loop-x.invariant.0 (λ e. c.loop-x-test.true (e ∙ sym c.size.ensures))).x_in

pub loop-x-preserved : goal.loop-x-preserved
loop-x-preserved c =
    elim c.if-group-last.branch [
      | then-group-last w ↦
          let g = grouped-new c.args.self.now.links.size c.args.self.now.sheet.words c.args.self.now.links.list c.loop-x.x c.loop-x.last
          (take c.loop-x.count c.loop-x.into)
          c.args.self.now.sound c.loop-x.invariant.0 (λ e. c.loop-x-test.true (e ∙ sym c.size.ensures))
          (λ e. w.if-group-last.true ((ap (λ w. w.group) c.item-group.ensures) ∙ e)) in
          let room : c.loop-x.count < length c.loop-x.into =
          omega (arith, g.1, length-take-le c.loop-x.count c.loop-x.into c.loop-x.invariant.1, c.requires.room) in
          let P : List ℕ → Type 0 = λ m. Grouped c.args.self.now.links.size (labels c.args.self.now.links.size c.args.self.now.sheet.words)
          c.args.self.now.links.list
          c.next-x.result c.item-group.result.group m in
          let more = grouped-new c.args.self.now.links.size c.args.self.now.sheet.words c.args.self.now.links.list c.loop-x.x c.loop-x.last
          (take c.loop-x.count c.loop-x.into) c.args.self.now.sound c.loop-x.invariant.0 (λ e. c.loop-x-test.true (e ∙ sym c.size.ensures))
          (λ e. w.if-group-last.true ((ap (λ w. w.group) c.item-group.ensures) ∙ e)) in
          rw (w.into-is, w.count-is, w.last-is) (
            subst P (sym (take_more_set c.loop-x.into c.loop-x.count c.item-group.result.group room))
                (rw (c.next-x.ensures, (ap (λ w. w.group) c.item-group.ensures)) more.0),
            omega (arith, length-set c.loop-x.into c.loop-x.count c.item-group.result.group, room),
          )
      | else-group-last w ↦
          let same = grouped-same c.args.self.now.links.size c.args.self.now.sheet.words c.args.self.now.links.list c.loop-x.x c.loop-x.last
          (take c.loop-x.count c.loop-x.into) c.args.self.now.sound c.loop-x.invariant.0 (λ e. c.loop-x-test.true (e ∙ sym c.size.ensures))
          (sym (ap (λ w. w.group) c.item-group.ensures) ∙ w.if-group-last.false) in
          rw (w.into-is, w.count-is, w.last-is, c.next-x.ensures) (same, c.loop-x.invariant.1)
    ]

pub loop-x-smaller : goal.loop-x-smaller
loop-x-smaller c =
    let s = group_step c.args.self.now.links.size c.args.self.now.sheet.words c.args.self.now.links.list c.loop-x.x c.loop-x.last
    (take c.loop-x.count c.loop-x.into)
    c.args.self.now.sound c.loop-x.invariant.0 (λ e. c.loop-x-test.true (e ∙ sym c.size.ensures)) in
    rw c.next-x.ensures (omega (arith, s.nearer, s.short))

pub returns-clause-groups : goal.returns-clause-groups
returns-clause-groups c = grouped-all c.args.self.now.links.size c.args.self.now.sheet.words c.args.self.now.links.list c.loop-x.x c.loop-x.last
    (take c.loop-x.count c.loop-x.into) c.args.self.now.sound c.loop-x.invariant.0 (c.loop-x-test.false ∙ c.size.ensures)
