-- Both ends of the next change are among the ends of the batch, all of which are ids.
use Rattle.std.proofs.Common.{false}
use Rattle.kc_text.proofs.Telling.{change_ends}
use Rattle.kc_text.proofs.numbering.updates_of.Goals as goal

pub update_of-requires-clause-a : goal.update_of-requires-clause-a
update_of-requires-clause-a c =
    c.requires.among _
    (change_ends c.args.batch.now c.loop-change.change-index (record { add = false; a = 0; b = 0 }) c.loop-change-test.true).0

pub update_of-requires-clause-b : goal.update_of-requires-clause-b
update_of-requires-clause-b c =
    c.requires.among _
    (change_ends c.args.batch.now c.loop-change.change-index (record { add = false; a = 0; b = 0 }) c.loop-change-test.true).1
