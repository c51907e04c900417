-- Each entry did what it would have done first, and as many are all.
use Rattle.kc_batch_effects.proofs.Told.{outcomes-of}
use Rattle.kc_batch_effects.proofs.laws.what_entries_did_are_the_outcomes_of_their_batch.Goals as goal

pub returns : goal.returns
returns c = outcomes-of
