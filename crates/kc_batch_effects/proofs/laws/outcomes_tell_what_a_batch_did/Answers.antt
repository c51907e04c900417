-- The indices are the row of the batch, and each count goes by the update of an index.
use Rattle.kc_batch_effects.proofs.Told.{tells-added, tells-kept, tells-removed}
use Rattle.kc_batch_effects.proofs.laws.outcomes_tell_what_a_batch_did.Goals as goal

pub returns-clause-added : goal.returns-clause-added
returns-clause-added c = tells-added

pub returns-clause-removed : goal.returns-clause-removed
returns-clause-removed c = tells-removed

pub returns-clause-kept : goal.returns-clause-kept
returns-clause-kept c = tells-kept
