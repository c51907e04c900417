-- The pass is told what the other has seen, and its load then finds a log that both begin.
use Rattle.std.proofs.Common.{ap, ◌∙◌, rules}
use Rattle.kc_table.proofs.Steps.{join-keeps_rule, load-keeps_rule}
use Rattle.kc_table.proofs.table.meet.Goals as goal

pub join_seat-requires : goal.join_seat-requires
join_seat-requires c = (search rules, search rules, search rules, search rules, join-keeps_rule _ _ _ _ _ c.pass.invariant.1 c.other.invariant.1)

pub load-requires : goal.load-requires
load-requires c = (search rules, search rules, load-keeps_rule _ _ _ _ _ (ap (λ m. m.0.spent) c.join_seat.ensures.2 ∙ c.pass.invariant.1))
