-- The stores of a log are made one after the other, so the last one changes what those before have made.
use Rattle.kc_table.proofs.LegalLogs.{state_of-push}
use Rattle.kc_table.proofs.laws.a_store_changes_the_state.Goals as goal

pub returns : goal.returns
returns c = state_of-push
