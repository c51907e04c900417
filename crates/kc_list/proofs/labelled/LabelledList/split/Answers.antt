-- The label of the new group is stored first, then each upper member moves.
use Rattle.std.proofs.Common.{arith, sym, subst, ◌++◌, length}
use Rattle.kc_lists.proofs.Members.{member-append_right}
use Rattle.kc_links.specs.Ring.{Chain}
use Rattle.kc_words.specs.Order.{labels}
use Rattle.kc_list.specs.Views.{HaveMoved}
use Rattle.kc_list.proofs.Spreading.{segment_in}
use Rattle.kc_list.proofs.Splits.{version_kept}
use Rattle.kc_list.proofs.Cutting.{stored_count, split_done, split_relabels}
use Rattle.kc_list.proofs.labelled.LabelledList.split.Goals as goal

pub move_all-requires-clause-wait : goal.move_all-requires-clause-wait
move_all-requires-clause-wait c =
    subst (λ (l : Chain). HaveMoved l c.store_top.new.self.sheet c.args.cut.group c.args.cut.fresh c.args.cut.low.now c.args.cut.ups.now
    (length c.args.cut.ups.now))
    (sym c.store_top.ensures.stores.links) c.store_top.ensures.wait

pub move_all-requires-clause-version : goal.move_all-requires-clause-version
move_all-requires-clause-version c y m =
    let below = (c.args.self.now.sound.inside y
    (segment_in (labels c.args.self.now.links.size c.args.self.now.sheet.words) c.args.self.now.links.list c.args.cut.group
    (c.args.cut.low.now ++ c.args.cut.ups.now) c.requires.segment y (member-append_right y c.args.cut.low.now c.args.cut.ups.now m))).below in
    omega (
      arith,
      version_kept c.args.self.now.links.size c.args.cut.fresh y _ c.args.self.now.sheet.words c.store_top.new.self.sheet.words
          c.requires.fresh.free.low below c.store_top.ensures.stores.stores.words,
      c.requires.versions y m,
    )

pub move_all-requires-clause-room : goal.move_all-requires-clause-room
move_all-requires-clause-room c =
    omega (
      arith,
      stored_count c.args.self.now.sheet c.store_top.new.self.sheet _ c.store_top.ensures.stores.stores,
      c.store_top.ensures.stores.stores.room,
      c.requires.room,
    )

pub returns-clause-splits : goal.returns-clause-splits
returns-clause-splits c =
    split_done c.args.self.now c.store_top.new.self c.move_all.new.self c.args.cut.group c.args.cut.fresh c.args.cut.low.now c.args.cut.ups.now
    c.store_top.ensures.stores c.move_all.ensures.moved c.move_all.ensures.relabels.rewrites.links c.move_all.ensures.only

pub returns-clause-relabels : goal.returns-clause-relabels
returns-clause-relabels c =
    split_relabels c.args.self.now c.store_top.new.self c.move_all.new.self c.args.cut.fresh (length c.args.cut.ups.now)
    c.requires.fresh.free.low c.store_top.ensures.stores c.store_top.ensures.steps c.move_all.ensures.groups c.move_all.ensures.relabels
