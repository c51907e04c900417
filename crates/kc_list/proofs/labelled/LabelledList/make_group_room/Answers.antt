-- Where nothing is written the list is in order at the one moment that there is.
use Rattle.std.proofs.Common.{inl}
use Rattle.kc_list.proofs.Rewritings.{order-unwritten}
use Rattle.kc_list.proofs.labelled.LabelledList.make_group_room.Goals as goal

pub returns-then-size-lt-GROUP_ITEMS-clause-rewrites : goal.returns-then-size-lt-GROUP_ITEMS-clause-rewrites
returns-then-size-lt-GROUP_ITEMS-clause-rewrites c = order-unwritten c.args.self.now _

pub returns-then-low-high-clause-rewrites : goal.returns-then-low-high-clause-rewrites
returns-then-low-high-clause-rewrites c = order-unwritten c.args.self.now _

pub returns-clause-room : goal.returns-clause-room
returns-clause-room c = record {
  tallied = c.split_group.ensures.divides.tallied;
  takes = inl c.split_group.ensures.divides.size;
  kept = c.split_group.ensures.divides.kept;
}
