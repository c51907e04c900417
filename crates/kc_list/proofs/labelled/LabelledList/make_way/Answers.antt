-- Room for a group number, then room for a label: no word is written twice.
use Rattle.std.proofs.Common.{arith, ◌+◌}
use Rattle.kc_list.proofs.Rewritings.{most_items, way_made, way_rewrites}
use Rattle.kc_list.specs.declared.limits.TheConstants.{GROUP_ITEMS}
use Rattle.kc_list.proofs.labelled.LabelledList.make_way.Goals as goal

pub make_group_room-requires-clause-p_in : goal.make_group_room-requires-clause-p_in
make_group_room-requires-clause-p_in c = c.requires.items.1

pub make_group_room-requires-clause-x_within : goal.make_group_room-requires-clause-x_within
make_group_room-requires-clause-x_within c = c.requires.items.0

pub make_room-requires-clause-p_in : goal.make_room-requires-clause-p_in
make_room-requires-clause-p_in c = rw c.make_group_room.ensures.rewrites.links c.requires.items.1

pub make_room-requires-clause-size : goal.make_room-requires-clause-size
make_room-requires-clause-size c = most_items c.make_group_room.new.self c.args.p c.make_group_room.ensures.room.tallied
    (rw c.make_group_room.ensures.rewrites.links c.requires.items.1)

pub make_room-requires-clause-spare : goal.make_room-requires-clause-spare
make_room-requires-clause-spare c = record {
  version = λ y m. omega (arith, c.make_group_room.ensures.rewrites.versions (1 + y), c.requires.spare.versions (1 + y));
  room = omega (arith, c.make_group_room.ensures.rewrites.count, c.make_group_room.ensures.rewrites.room, c.requires.spare.room);
}

pub returns-clause-way : goal.returns-clause-way
returns-clause-way c = way_made c.args.self.now c.make_group_room.new.self c.make_room.new.self c.args.x c.args.p _ c.make_group_room.ensures.room
    c.make_room.ensures.change c.make_room.ensures.relabels c.make_room.ensures.gap
    (rw c.make_group_room.ensures.rewrites.links c.requires.items.0) (rw c.make_group_room.ensures.rewrites.links c.requires.items.1)

pub returns-clause-rewrites : goal.returns-clause-rewrites
returns-clause-rewrites c = way_rewrites c.args.self.now c.make_group_room.new.self c.make_room.new.self c.args.x c.args.p _ GROUP_ITEMS
    c.make_group_room.ensures.room c.make_group_room.ensures.rewrites c.make_room.ensures.change c.make_room.ensures.kept c.make_room.ensures.relabels.rewrites
