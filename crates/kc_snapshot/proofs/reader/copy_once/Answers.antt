-- What is copied is the board's list, which is the last one that is then seen.
use Rattle.std.proofs.Common.{◌∙◌}
use Rattle.kc_snapshot.proofs.reader.copy_once.Goals as goal

pub returns-clause-cores : goal.returns-clause-cores
returns-clause-cores g c = c.copy_from_slice.ensures.after ∙ (c.as_slice.ensures.value ∙ c.in_ok-core.ensures.list)
