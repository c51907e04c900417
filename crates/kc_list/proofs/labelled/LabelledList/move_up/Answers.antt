-- The member moves to the new group, above all that stay and below all that moved.
use Rattle.std.proofs.Common.{◌+◌, ap, arith}
use Rattle.kc_list.proofs.Splits.{upper_below}
use Rattle.kc_list.proofs.Cutting.{moved_by}
use Rattle.kc_list.proofs.labelled.LabelledList.move_up.Goals as goal

pub item-old-requires : goal.item-old-requires
item-old-requires c = upper_below c.args.self.now.links.size c.args.self.now.sheet.words c.args.self.now.links.list c.args.cut.group c.args.cut.fresh
    c.args.cut.low.now c.args.cut.ups.now _ c.args.place (c.args.place + 1) c.args.self.now.sound c.requires.waits c.requires.place_in

pub overflow_cast-new : goal.overflow_cast-new
overflow_cast-new c = omega (
  arith,
  (moved_by c.args.self.now c.args.cut.group c.args.cut.fresh c.args.place c.spread-label.result c.args.cut.low.now c.args.cut.ups.now
      c.item-old.result c.item-old.ensures c.args.cut.some_low c.args.cut.few c.requires.waits c.requires.place_in c.requires.version
      c.spread-label.ensures).all.fits.2,
)

pub store_item-requires-clause-fits : goal.store_item-requires-clause-fits
store_item-requires-clause-fits c = (moved_by c.args.self.now c.args.cut.group c.args.cut.fresh c.args.place c.spread-label.result c.args.cut.low.now
    c.args.cut.ups.now
    c.item-old.result c.item-old.ensures c.args.cut.some_low c.args.cut.few c.requires.waits c.requires.place_in c.requires.version
    c.spread-label.ensures).all.fits

pub store_item-requires-clause-rises : goal.store_item-requires-clause-rises
store_item-requires-clause-rises c = ap (λ w. w.version + 1) c.item-old.ensures

pub store_item-requires-clause-sound : goal.store_item-requires-clause-sound
store_item-requires-clause-sound c = (moved_by c.args.self.now c.args.cut.group c.args.cut.fresh c.args.place c.spread-label.result c.args.cut.low.now
    c.args.cut.ups.now
    c.item-old.result c.item-old.ensures c.args.cut.some_low c.args.cut.few c.requires.waits c.requires.place_in c.requires.version
    c.spread-label.ensures).all.sound

pub returns-clause-moved : goal.returns-clause-moved
returns-clause-moved c = rw c.store_item.ensures.words
    (moved_by c.args.self.now c.args.cut.group c.args.cut.fresh c.args.place c.spread-label.result c.args.cut.low.now c.args.cut.ups.now
    c.item-old.result c.item-old.ensures c.args.cut.some_low c.args.cut.few c.requires.waits c.requires.place_in c.requires.version
    c.spread-label.ensures).all.splitting
