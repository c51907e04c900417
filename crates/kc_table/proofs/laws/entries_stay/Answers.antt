-- A store keeps the entries or adds one behind them, so those after a prefix begin those of the log.
use Rattle.kc_table.proofs.LegalLogs.{entries-prefix}
use Rattle.kc_table.proofs.laws.entries_stay.Goals as goal

pub returns : goal.returns
returns c = entries-prefix
