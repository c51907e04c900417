-- A group that no item has may get any label.
use Rattle.std.proofs.Common.{◌+◌, arith, ap, sym, ◌∙◌, get_or}
use Rattle.kc_list.proofs.Splits.{same_version}
use Rattle.kc_list.proofs.Cutting.{topped_by, stored_steps}
use Rattle.kc_list.proofs.labelled.LabelledList.store_top.Goals as goal

pub overflow_add-new : goal.overflow_add-new
overflow_add-new c =
    omega (
      arith,
      ap (λ w. w.version) c.group-old.ensures,
      same_version (get_or c.args.self.now.sheet.words (c.args.self.now.links.size + c.args.cut.fresh) 0),
      c.requires.fresh.version,
    )

pub store_group-requires-clause-fits : goal.store_group-requires-clause-fits
store_group-requires-clause-fits c = (topped_by c.args.self.now c.args.cut.group c.args.cut.fresh c.args.top c.args.cut.low.now c.args.cut.ups.now
    c.group-old.result c.group-old.ensures
    c.args.cut.some_low c.requires.segment c.requires.fresh c.requires.top).fits

pub store_group-requires-clause-rises : goal.store_group-requires-clause-rises
store_group-requires-clause-rises c = ap (λ w. w.version + 1) c.group-old.ensures
    ∙ ap (λ k. k + 1) (sym (same_version (get_or c.args.self.now.sheet.words (c.args.self.now.links.size + c.args.cut.fresh) 0)))

pub store_group-requires-clause-sound : goal.store_group-requires-clause-sound
store_group-requires-clause-sound c = (topped_by c.args.self.now c.args.cut.group c.args.cut.fresh c.args.top c.args.cut.low.now c.args.cut.ups.now
    c.group-old.result c.group-old.ensures
    c.args.cut.some_low c.requires.segment c.requires.fresh c.requires.top).sound

pub returns-clause-wait : goal.returns-clause-wait
returns-clause-wait c = rw c.store_group.ensures.words
    (topped_by c.args.self.now c.args.cut.group c.args.cut.fresh c.args.top c.args.cut.low.now c.args.cut.ups.now c.group-old.result c.group-old.ensures
    c.args.cut.some_low c.requires.segment c.requires.fresh c.requires.top).splitting

pub returns-clause-steps : goal.returns-clause-steps
returns-clause-steps c =
    stored_steps c.args.self.now c.store_group.new.self (c.args.self.now.links.size + c.args.cut.fresh) c.store_group.ensures.stores
    (omega (arith, c.requires.fresh.free.low)) (omega (arith, c.requires.fresh.free.high, c.args.self.now.sound.size))
