-- No round raises a number, so what the last change left stays, and was greater in each round before.
use Rattle.kc_ranks.proofs.LastRounds.{last-changes}
use Rattle.kc_ranks.proofs.last_changes_are_last_rounds.Goals as goal

pub returns : goal.returns
returns c = last-changes
