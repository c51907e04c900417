-- The rule is kept with one seat more, which has seen what the pass has and writes nothing.
use Rattle.std.proofs.Common.{rules}
use Rattle.kc_table.proofs.Steps.{split-keeps_rule}
use Rattle.kc_table.proofs.table.split.Goals as goal

pub split_seat-requires : goal.split_seat-requires
split_seat-requires c = (search rules, search rules, split-keeps_rule _ _ _ c.pass.invariant.1)
