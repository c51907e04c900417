-- What follows the last member is an item, whose group has a word.
use Rattle.std.proofs.Common.{arith, ap, sym, ◌∙◌}
use Rattle.kc_list.proofs.Counts.{next_in}
use Rattle.kc_list.proofs.labelled.LabelledList.top_gap.Goals as goal

pub item-after-requires : goal.item-after-requires
item-after-requires c =
    (next_in c.args.self.now.links.size c.args.self.now.sheet.words c.args.self.now.links.list c.args.last c.next-next.result c.args.self.now.sound
    c.next-next.ensures (λ e. c.if-next-size.false (e ∙ sym c.size.ensures))).1.below

pub group-requires : goal.group-requires
group-requires c =
    let p = (next_in c.args.self.now.links.size c.args.self.now.sheet.words c.args.self.now.links.list c.args.last c.next-next.result c.args.self.now.sound
    c.next-next.ensures (λ e. c.if-next-size.false (e ∙ sym c.size.ensures))).1 in
    omega (arith, p.group_high, ap (λ w. w.group) c.item-after.ensures)
