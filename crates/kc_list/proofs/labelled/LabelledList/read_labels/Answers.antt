-- The labels before the next are read.
use Rattle.std.proofs.Common.{arith, ap, ◌∙◌, get_or}
use Rattle.kc_words.specs.Order.{labels}
use Rattle.kc_list.proofs.Spreading.{bottoms-step}
use Rattle.kc_lists.proofs.Counting.{member-get_or}
use Rattle.kc_list.proofs.labelled.LabelledList.read_labels.Goals as goal

pub item-requires : goal.item-requires
item-requires c = (c.requires.within (get_or c.args.members.now c.loop-i.i 0) (member-get_or c.args.members.now c.loop-i.i 0 c.loop-i-test.true))

pub loop-i-preserved : goal.loop-i-preserved
loop-i-preserved c = bottoms-step (labels c.args.self.now.links.size c.args.self.now.sheet.words).bottom c.args.members.now c.loop-i.i _ c.loop-i.into
    (omega arith)
    c.loop-i-test.true (c.from.ensures ∙ ap (λ w. w.bottom) c.item.ensures) c.loop-i.invariant
