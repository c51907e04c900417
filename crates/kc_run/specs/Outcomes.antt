-- What a receipt tells of its update.
use Rattle.kc_batch_effects.specs.declared.outcome.Outcome.{Outcome}
use Rattle.kc_journal.specs.declared.answer.Receipt.{Receipt}

-- the index of the receipt's update, and whether that changed the graph
abbrev pub outcome_of : Receipt → Outcome
outcome_of receipt = record { index = receipt.index; applied = receipt.applied }
