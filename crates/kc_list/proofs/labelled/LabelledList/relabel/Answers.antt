-- The member keeps its group, and the labels of the group still ascend.
use Rattle.std.proofs.Common.{◌+◌, arith, ap}
use Rattle.kc_words.specs.Order.{labels}
use Rattle.kc_list.proofs.Spreading.{segment_below, label_fits}
use Rattle.kc_list.proofs.Relabelling.{relabelled_by}
use Rattle.kc_list.proofs.labelled.LabelledList.relabel.Goals as goal

pub item-old-requires : goal.item-old-requires
item-old-requires c = segment_below c.args.self.now.links.size c.args.self.now.sheet.words c.args.self.now.links.list c.args.group c.args.members.now
    c.args.place c.args.self.now.sound c.requires.segment c.requires.place_in

pub overflow_cast-new : goal.overflow_cast-new
overflow_cast-new c = omega (
  arith,
  label_fits (labels c.args.self.now.links.size c.args.self.now.sheet.words) c.args.members.now c.args.place c.args.label
      c.requires.place_in c.requires.ascends,
)

pub store_item-requires-clause-fits : goal.store_item-requires-clause-fits
store_item-requires-clause-fits c = (relabelled_by c.args.self.now c.args.group c.args.members.now c.args.place c.args.label c.item-old.result
    c.item-old.ensures c.requires.segment
    c.requires.place_in c.requires.ascends c.requires.version).all.fits

pub store_item-requires-clause-rises : goal.store_item-requires-clause-rises
store_item-requires-clause-rises c = ap (λ w. w.version + 1) c.item-old.ensures

pub store_item-requires-clause-sound : goal.store_item-requires-clause-sound
store_item-requires-clause-sound c = (relabelled_by c.args.self.now c.args.group c.args.members.now c.args.place c.args.label c.item-old.result
    c.item-old.ensures c.requires.segment
    c.requires.place_in c.requires.ascends c.requires.version).all.sound

pub returns-clause-segment : goal.returns-clause-segment
returns-clause-segment c = rw c.store_item.ensures.words
    (relabelled_by c.args.self.now c.args.group c.args.members.now c.args.place c.args.label c.item-old.result c.item-old.ensures c.requires.segment
    c.requires.place_in c.requires.ascends c.requires.version).all.segment

pub returns-clause-bottoms : goal.returns-clause-bottoms
returns-clause-bottoms c = rw c.store_item.ensures.words
    (relabelled_by c.args.self.now c.args.group c.args.members.now c.args.place c.args.label c.item-old.result c.item-old.ensures c.requires.segment
    c.requires.place_in c.requires.ascends c.requires.version).all.bottoms
