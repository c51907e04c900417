-- The last member of the full group shows the gap above it; where that is too narrow, all groups are spread.
use Rattle.std.proofs.Common.{ap, sym, ◌∙◌, refl}
use Rattle.kc_list.proofs.Rewritings.{order-unwritten}
use Rattle.kc_list.proofs.Dividing.{last_of, wide_above, spread_above, spread_keeps}
use Rattle.kc_list.proofs.labelled.LabelledList.make_top_room.Goals as goal

pub top_gap-low-requires-clause-last_in : goal.top_gap-low-requires-clause-last_in
top_gap-low-requires-clause-last_in c =
    (last_of c.args.self.now c.args.p c.args.members.now c.requires.members.segment c.requires.members.count).inside

pub top_gap-low-requires-clause-group : goal.top_gap-low-requires-clause-group
top_gap-low-requires-clause-group c =
    (last_of c.args.self.now c.args.p c.args.members.now c.requires.members.segment c.requires.members.count).group
    ∙ sym (ap (λ w. w.group) c.item-group.ensures)

pub returns-then-low-high-clause-gap : goal.returns-then-low-high-clause-gap
returns-then-low-high-clause-gap c =
    wide_above c.args.self.now c.args.p c.item-group.result.group c.args.members.now c.top_gap-low.result.0 c.top_gap-low.result.1
    c.requires.members.segment c.requires.members.count (ap (λ w. w.group) c.item-group.ensures) c.top_gap-low.ensures.low
    c.top_gap-low.ensures.high c.if-low-high.true

pub returns-then-low-high-clause-kept : goal.returns-then-low-high-clause-kept
returns-then-low-high-clause-kept c = record { items = λ w l. refl; unused = λ h f. refl }

pub returns-then-low-high-clause-relabels : goal.returns-then-low-high-clause-relabels
returns-then-low-high-clause-relabels c = record { groups = refl; rewrites = order-unwritten c.args.self.now _ }

pub returns-clause-gap : goal.returns-clause-gap
returns-clause-gap c = spread_above c.args.self.now c.spread_tops.new.list c.args.p c.spread_tops.ensures.spread c.requires.members.full.p_in

pub returns-clause-kept : goal.returns-clause-kept
returns-clause-kept c = spread_keeps c.args.self.now c.spread_tops.new.list c.spread_tops.ensures.spread
