-- The members' labels ascend, and so do those at even distances to which they are written one by one.
use Rattle.std.proofs.Common.{◌+◌, ◌/◌, ℕ, arith, ap, ◌∙◌, length}
use Rattle.std.proofs.lemmas.List.{length-map, length-take-le}
use Rattle.kc_words.specs.Order.{labels}
use Rattle.kc_words.specs.declared.layout.TheConstants.{BOTTOM_ROOM}
use Rattle.kc_list.specs.Places.{evens}
use Rattle.kc_list.specs.Views.{bottom_at}
use Rattle.kc_list.proofs.Spreading.{segment_in, ascends_from_order}
use Rattle.kc_list.proofs.Relabelling.{writes-fewer}
use Rattle.kc_list.proofs.labelled.LabelledList.spread_by.Goals as goal

pub plan-used-requires-clause-within : goal.plan-used-requires-clause-within
plan-used-requires-clause-within c y m = (c.args.self.now.sound.inside y
    (segment_in (labels c.args.self.now.links.size c.args.self.now.sheet.words) c.args.self.now.links.list c.args.group c.args.members.now
    c.requires.segment y m)).below

pub plan-used-requires-clause-ascends : goal.plan-used-requires-clause-ascends
plan-used-requires-clause-ascends c = ascends_from_order c.args.self.now.links.size c.args.self.now.sheet.words c.args.self.now.links.list c.args.group
    c.args.members.now c.args.self.now.sound c.requires.segment

pub relabel_all-requires-clause-room : goal.relabel_all-requires-clause-room
relabel_all-requires-clause-room c = omega (
  arith,
  length-take-le c.plan-used.result c.plan-used.new.steps (omega arith),
  c.plan-used.ensures.used,
  c.requires.steps_length,
  c.requires.room,
)

pub returns-clause-spreads : goal.returns-clause-spreads
returns-clause-spreads c = record {
  segment = c.relabel_all.ensures.segment;
  bottoms = c.relabel_all.ensures.bottoms ∙ (c.plan-used.ensures.spreads.done
      ∙ ap (λ (n : ℕ). evens n (BOTTOM_ROOM / (n + 1)) 0) (length-map c.args.members.now (bottom_at c.args.self.now.links c.args.self.now.sheet)));
  only = c.relabel_all.ensures.only;
}

pub returns-clause-relabels : goal.returns-clause-relabels
returns-clause-relabels c = writes-fewer c.args.self.now c.relabel_all.new.self _ (length c.args.members.now) c.relabel_all.ensures.relabels
    (omega (
      arith,
      length-take-le c.plan-used.result c.plan-used.new.steps (omega arith),
      c.plan-used.ensures.used,
      c.requires.steps_length,
    ))
