-- Where nothing is written the list is in order at the one moment that there is.
use Rattle.std.proofs.Common.{refl}
use Rattle.kc_list.proofs.Rewritings.{order-unwritten}
use Rattle.kc_list.proofs.labelled.LabelledList.make_room.Goals as goal

pub returns-then-low-high-clause-relabels : goal.returns-then-low-high-clause-relabels
returns-then-low-high-clause-relabels c = record { groups = refl; rewrites = order-unwritten c.args.self.now _ }

pub gap-requires : goal.gap-requires
gap-requires c = rw c.spread_at.ensures.relabels.rewrites.links c.requires.p_in

pub spread_at-requires-clause-version : goal.spread_at-requires-clause-version
spread_at-requires-clause-version c = c.requires.spare.version

pub spread_at-requires-clause-room : goal.spread_at-requires-clause-room
spread_at-requires-clause-room c = c.requires.spare.room

pub returns-then-low-high-clause-told : goal.returns-then-low-high-clause-told
returns-then-low-high-clause-told c = record { low = c.gap-low.ensures.low; high = c.gap-low.ensures.high }

pub returns-clause-told : goal.returns-clause-told
returns-clause-told c = record { low = c.gap.ensures.low; high = c.gap.ensures.high }
