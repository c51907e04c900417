-- Each item on the way back is of the group, and the walk stops where the one before is not.
use Rattle.std.proofs.Common.{◌≡◌, suc, arith, ap, sym, ◌∙◌}
use Rattle.kc_lists.specs.Lists.{place_of}
use Rattle.kc_list.proofs.Gathering.{back_facts, first_found}
use Rattle.kc_list.proofs.labelled.LabelledList.first_of.Goals as goal

pub item-requires : goal.item-requires
item-requires c =
    let f = back_facts c.args.self.now.links.size c.args.self.now.sheet.words c.args.self.now.links.list c.loop-before.first c.loop-before.before
    c.args.self.now.sound
    c.loop-before.invariant.0 c.loop-before.invariant.2 (λ e. c.loop-before-test.true (e ∙ sym c.size.ensures)) in
    f.1

pub prev-before-requires-in-loop-before : goal.prev-before-requires-in-loop-before
prev-before-requires-in-loop-before c =
    (back_facts c.args.self.now.links.size c.args.self.now.sheet.words c.args.self.now.links.list c.loop-before.first c.loop-before.before c.args.self.now.sound
    c.loop-before.invariant.0 c.loop-before.invariant.2 (λ e. c.loop-before-test.true (e ∙ sym c.size.ensures))).0

pub loop-before-smaller : goal.loop-before-smaller
loop-before-smaller c =
    let f : suc (place_of c.loop-before.before c.args.self.now.links.list) ≡ place_of c.loop-before.first c.args.self.now.links.list =
    (back_facts c.args.self.now.links.size c.args.self.now.sheet.words c.args.self.now.links.list c.loop-before.first c.loop-before.before c.args.self.now.sound
    c.loop-before.invariant.0 c.loop-before.invariant.2 (λ e. c.loop-before-test.true (e ∙ sym c.size.ensures))).2 in
    omega (arith, f)

pub loop-before-preserved : goal.loop-before-preserved
loop-before-preserved c =
    let f = back_facts c.args.self.now.links.size c.args.self.now.sheet.words c.args.self.now.links.list c.loop-before.first c.loop-before.before
    c.args.self.now.sound
    c.loop-before.invariant.0 c.loop-before.invariant.2 (λ e. c.loop-before-test.true (e ∙ sym c.size.ensures)) in
    (f.0, sym (ap (λ w. w.group) c.item.ensures) ∙ c.if-item-group.true, c.prev-before-in-loop-before.ensures)

pub returns-else-item-group : goal.returns-else-item-group
returns-else-item-group c =
    let g = ap (λ w. w.group) c.item-group.ensures in
    first_found c.args.self.now.links.size c.args.self.now.sheet.words c.args.self.now.links.list _ c.loop-before.first c.loop-before.before
    c.args.self.now.sound
    c.loop-before.invariant.0 (c.loop-before.invariant.1 ∙ g) c.loop-before.invariant.2
    (λ _ e. c.if-item-group.false (ap (λ w. w.group) c.item.ensures ∙ (e ∙ sym g)))

pub returns-after-loop-before : goal.returns-after-loop-before
returns-after-loop-before c =
    let g = ap (λ w. w.group) c.item-group.ensures in
    first_found c.args.self.now.links.size c.args.self.now.sheet.words c.args.self.now.links.list _ c.loop-before.first c.loop-before.before
    c.args.self.now.sound
    c.loop-before.invariant.0 (c.loop-before.invariant.1 ∙ g) c.loop-before.invariant.2
    (λ ne _. ne (c.loop-before-test.false ∙ c.size.ensures))
