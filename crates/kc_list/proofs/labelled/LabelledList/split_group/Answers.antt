-- Spreading the groups leaves all items where they are, so that the group is still full; one number is free.
use Rattle.std.proofs.Common.{◌≡◌, ◌+◌, ℕ, arith, ap, sym, ◌∙◌, subst, get_or}
use Rattle.kc_links.specs.Ring.{Chain}
use Rattle.kc_list.specs.Views.{HasRoomAbove, group_at}
use Rattle.kc_list.specs.Rewriting.{Rewrites}
use Rattle.kc_list.specs.declared.limits.TheConstants.{HALF_ITEMS}
use Rattle.kc_list.proofs.Arranging.{spare_group}
use Rattle.kc_list.proofs.Dividing.{whole_group, group-still_full, members-still, free_there, group-divided, divided_rewrites}
use Rattle.kc_list.proofs.labelled.LabelledList.split_group.Goals as goal

pub split-fresh-requires-clause-within : goal.split-fresh-requires-clause-within
split-fresh-requires-clause-within c =
    omega (
      arith,
      ap (λ w. w.group) c.item-group.ensures,
      (group-still_full c.args.self.now c.make_top_room.new.self c.args.p _ c.make_top_room.ensures.relabels c.make_top_room.ensures.kept c.requires.full
          c.requires.tallied).within,
    )

pub split-fresh-requires-clause-full : goal.split-fresh-requires-clause-full
split-fresh-requires-clause-full c = ap (λ w. get_or c.make_top_room.new.self.groups w.group 0) c.item-group.ensures
    ∙ (group-still_full c.args.self.now c.make_top_room.new.self c.args.p _ c.make_top_room.ensures.relabels c.make_top_room.ensures.kept c.requires.full
    c.requires.tallied).size

pub split-fresh-requires-clause-spare : goal.split-fresh-requires-clause-spare
split-fresh-requires-clause-spare c =
    spare_group c.make_top_room.new.self.links.size c.make_top_room.new.self.sheet.words c.make_top_room.new.self.links.list
    c.make_top_room.new.self.groups c.make_top_room.new.self.sound
    (group-still_full c.args.self.now c.make_top_room.new.self c.args.p _ c.make_top_room.ensures.relabels c.make_top_room.ensures.kept c.requires.full
    c.requires.tallied).tallied

pub make_top_room-requires-clause-members : goal.make_top_room-requires-clause-members
make_top_room-requires-clause-members c = record {
  count = omega arith;
  full = c.requires.full;
  segment = whole_group c.args.self.now c.args.p c.gather.result c.gather.new.into c.gather.ensures.segment (omega arith) (omega arith) c.requires.full;
}

pub split_at-requires-clause-members : goal.split_at-requires-clause-members
split_at-requires-clause-members c = record {
  count = omega arith;
  full = (group-still_full c.args.self.now c.make_top_room.new.self c.args.p _ c.make_top_room.ensures.relabels c.make_top_room.ensures.kept
      c.requires.full c.requires.tallied).full;
  segment = members-still c.args.self.now c.make_top_room.new.self c.args.p _ c.gather.new.into c.make_top_room.ensures.relabels
      c.make_top_room.ensures.kept c.requires.full
      (whole_group c.args.self.now c.args.p c.gather.result c.gather.new.into c.gather.ensures.segment (omega arith) (omega arith) c.requires.full);
}

pub split_at-requires-clause-fresh : goal.split_at-requires-clause-fresh
split_at-requires-clause-fresh c =
    let s = group-still_full c.args.self.now c.make_top_room.new.self c.args.p _ c.make_top_room.ensures.relabels c.make_top_room.ensures.kept c.requires.full
    c.requires.tallied in
    record {
      free = free_there c.make_top_room.new.self c.split-fresh.result s.tallied c.split-fresh.ensures.low c.split-fresh.ensures.within
          c.split-fresh.ensures.was_free;
      version = omega (
        arith,
        c.make_top_room.ensures.relabels.rewrites.versions (c.make_top_room.new.self.links.size + c.split-fresh.result),
        c.requires.spare.versions (c.make_top_room.new.self.links.size + c.split-fresh.result),
      );
    }

pub split_at-requires-clause-gap : goal.split_at-requires-clause-gap
split_at-requires-clause-gap c =
    subst (λ (l : Chain). HasRoomAbove l c.make_top_room.new.self.sheet (group_at l c.make_top_room.new.self.sheet c.args.p))
    (sym c.make_top_room.ensures.relabels.rewrites.links) c.make_top_room.ensures.gap

pub split_at-requires-clause-version : goal.split_at-requires-clause-version
split_at-requires-clause-version c y m =
    omega (arith, c.make_top_room.ensures.relabels.rewrites.versions (1 + y), c.requires.spare.versions (1 + y))

pub split_at-requires-clause-room : goal.split_at-requires-clause-room
split_at-requires-clause-room c =
    omega (arith, c.make_top_room.ensures.relabels.rewrites.count, c.make_top_room.ensures.relabels.rewrites.room, c.requires.spare.room)

pub returns-clause-divides : goal.returns-clause-divides
returns-clause-divides c =
    let s = group-still_full c.args.self.now c.make_top_room.new.self c.args.p _ c.make_top_room.ensures.relabels c.make_top_room.ensures.kept c.requires.full
    c.requires.tallied in
    group-divided c.args.self.now c.make_top_room.new.self c.split_at.new.self c.args.p c.item-group.result.group c.split-fresh.result _
    (ap (λ w. w.group) c.item-group.ensures) c.make_top_room.ensures.relabels.rewrites c.make_top_room.ensures.kept s c.split-fresh.ensures.low
    (free_there c.make_top_room.new.self c.split-fresh.result s.tallied c.split-fresh.ensures.low c.split-fresh.ensures.within
    c.split-fresh.ensures.was_free) c.split_at.ensures.halved c.split_at.ensures.relabels.rewrites.links
    (c.split_at.ensures.relabels.groups ∙ c.split-fresh.ensures.sizes)

pub returns-clause-rewrites : goal.returns-clause-rewrites
returns-clause-rewrites c =
    let most : c.args.self.now.links.size + (HALF_ITEMS + 1) ≡ c.args.self.now.links.size + HALF_ITEMS + 1 = omega arith in
    subst (λ (k : ℕ). Rewrites k c.args.self.now c.split_at.new.self) most
    (divided_rewrites c.args.self.now c.make_top_room.new.self c.split_at.new.self c.args.p c.split-fresh.result c.args.self.now.links.size
    (HALF_ITEMS + 1) c.make_top_room.ensures.relabels c.make_top_room.ensures.kept c.requires.tallied c.split-fresh.ensures.low
    c.split-fresh.ensures.within c.split-fresh.ensures.was_free c.split_at.ensures.halved
    record {
      links = c.split_at.ensures.relabels.rewrites.links;
      steps = c.split_at.ensures.relabels.rewrites.steps;
      versions = c.split_at.ensures.relabels.rewrites.versions;
      count = c.split_at.ensures.relabels.rewrites.count;
      room = c.split_at.ensures.relabels.rewrites.room;
    })
