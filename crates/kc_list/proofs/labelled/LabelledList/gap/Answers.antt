-- What follows `p` is an item, which has a word.
use Rattle.std.proofs.Common.{arith, sym, ◌∙◌, inl, inr}
use Rattle.kc_lists.specs.Lists.{next_of}
use Rattle.kc_lists.proofs.Members.{next_of-in}
use Rattle.kc_list.proofs.labelled.LabelledList.gap.Goals as goal

pub item-there-requires : goal.item-there-requires
item-there-requires c = elim (next_of-in c.args.self.now.links.size c.args.p c.args.self.now.links.list) [
  | inl e ↦ absurd (c.if-q-size.false (c.next-q.ensures ∙ (e ∙ sym c.size.ensures)))
  | inr m ↦
      omega (arith, c.next-q.ensures, (c.args.self.now.sound.inside (next_of c.args.self.now.links.size c.args.p c.args.self.now.links.list) m).below)
]
