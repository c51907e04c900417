-- The array has the members of the full group of `p`, so that the group's two halves are those of the array.
use Rattle.std.proofs.Common.{ℕ, ap, sym, subst}
use Rattle.kc_list.specs.Views.{AreMembers, HasRoomAbove}
use Rattle.kc_list.proofs.Dividing.{halved_at}
use Rattle.kc_list.proofs.labelled.LabelledList.split_at.Goals as goal

pub split_full-requires-clause-segment : goal.split_full-requires-clause-segment
split_full-requires-clause-segment c =
    subst (λ (z : ℕ). AreMembers c.args.self.now.links c.args.self.now.sheet z c.args.members.now) (sym (ap (λ w. w.group) c.item-group.ensures))
    c.requires.members.segment

pub split_full-requires-clause-gap : goal.split_full-requires-clause-gap
split_full-requires-clause-gap c =
    subst (λ (z : ℕ). HasRoomAbove c.args.self.now.links c.args.self.now.sheet z) (sym (ap (λ w. w.group) c.item-group.ensures)) c.requires.gap

pub returns-clause-halved : goal.returns-clause-halved
returns-clause-halved c =
    halved_at c.args.self.now c.split_full.new.self c.args.p c.item-group.result.group c.args.fresh c.args.members.now
    (ap (λ w. w.group) c.item-group.ensures) c.requires.members.segment c.requires.members.count c.requires.members.full c.requires.fresh.free
    c.split_full.ensures.halves
    c.split_full.ensures.relabels.rewrites.links
