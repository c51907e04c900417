-- The plan was read of a beginning of the journal's log, and so is any other that might be entered.
use Rattle.std.proofs.Common.{inr}
use Rattle.kc_journal.proofs.Later.{may-after}
use Rattle.kc_journal_tests.proofs.updates.Run.enter.Goals as goal

pub enter-requires-clause-read : goal.enter-requires-clause-read
enter-requires-clause-read c = (c.requires.may.log, inr c.requires.may.begins, c.requires.may.from_log)

pub returns : goal.returns
returns c = may-after _ _ c.enter.result c.enter.ensures.entered c.enter.ensures.same
