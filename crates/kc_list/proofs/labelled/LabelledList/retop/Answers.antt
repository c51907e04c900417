-- The group keeps its place among the groups, since their labels still ascend.
use Rattle.std.proofs.Common.{◌+◌, ap, sym, ◌∙◌, get_or, arith}
use Rattle.kc_list.proofs.Splits.{same_version}
use Rattle.kc_list.proofs.Toplabels.{group_range}
use Rattle.kc_list.proofs.Retopping.{retopped_by}
use Rattle.kc_list.proofs.labelled.LabelledList.retop.Goals as goal

pub group-old-requires : goal.group-old-requires
group-old-requires c = (group_range c.args.self.now.links.size c.args.self.now.sheet.words c.args.self.now.links.list c.args.groups.now c.args.place
    c.args.self.now.sound
    c.requires.groups c.requires.place_in).1

pub overflow_add-new : goal.overflow_add-new
overflow_add-new c =
    omega (
      arith,
      ap (λ w. w.version) c.group-old.ensures,
      same_version (get_or c.args.self.now.sheet.words
          (c.args.self.now.links.size + get_or c.args.groups.now c.args.place 0) 0),
      c.requires.version,
    )

pub store_group-requires-clause-low : goal.store_group-requires-clause-low
store_group-requires-clause-low c = (group_range c.args.self.now.links.size c.args.self.now.sheet.words c.args.self.now.links.list c.args.groups.now
    c.args.place c.args.self.now.sound
    c.requires.groups c.requires.place_in).0

pub store_group-requires-clause-within : goal.store_group-requires-clause-within
store_group-requires-clause-within c = (group_range c.args.self.now.links.size c.args.self.now.sheet.words c.args.self.now.links.list c.args.groups.now
    c.args.place c.args.self.now.sound
    c.requires.groups c.requires.place_in).1

pub store_group-requires-clause-fits : goal.store_group-requires-clause-fits
store_group-requires-clause-fits c =
    (retopped_by c.args.self.now c.args.groups.now c.args.place c.args.label c.group-old.result c.group-old.ensures c.requires.groups
    c.requires.place_in c.requires.version c.requires.ascends).all.fits

pub store_group-requires-clause-rises : goal.store_group-requires-clause-rises
store_group-requires-clause-rises c = ap (λ w. w.version + 1) c.group-old.ensures
    ∙ ap (λ k. k + 1) (sym (same_version (get_or c.args.self.now.sheet.words (c.args.self.now.links.size + get_or c.args.groups.now c.args.place 0) 0)))

pub store_group-requires-clause-sound : goal.store_group-requires-clause-sound
store_group-requires-clause-sound c =
    (retopped_by c.args.self.now c.args.groups.now c.args.place c.args.label c.group-old.result c.group-old.ensures c.requires.groups
    c.requires.place_in c.requires.version c.requires.ascends).all.sound

pub returns-clause-groups : goal.returns-clause-groups
returns-clause-groups c = rw c.store_group.ensures.words
    (sym (retopped_by c.args.self.now c.args.groups.now c.args.place c.args.label c.group-old.result c.group-old.ensures c.requires.groups
    c.requires.place_in c.requires.version c.requires.ascends).all.same_runs)

pub returns-clause-tops : goal.returns-clause-tops
returns-clause-tops c = rw c.store_group.ensures.words
    (retopped_by c.args.self.now c.args.groups.now c.args.place c.args.label c.group-old.result c.group-old.ensures c.requires.groups
    c.requires.place_in c.requires.version c.requires.ascends).all.tops
