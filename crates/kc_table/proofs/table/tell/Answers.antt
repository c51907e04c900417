-- A new pass is split from the writer, which has seen all; the old one joins the writer, whose load finds that it begins the log.
use Rattle.std.proofs.Common.{ap, ◌∙◌, rules}
use Rattle.kc_table.proofs.Steps.{join-keeps_rule, load-keeps_rule, split-keeps_rule}
use Rattle.kc_table.proofs.table.tell.Goals as goal

pub split_seat-new-requires : goal.split_seat-new-requires
split_seat-new-requires c = (search rules, search rules, split-keeps_rule _ _ _ c.writer.invariant.1)

pub join_seat-requires : goal.join_seat-requires
join_seat-requires c = (
  search rules,
  search rules,
  search rules,
  search rules,
  join-keeps_rule _ _ _ _ _ (ap (λ m. m.0.spent) c.split_seat-new.ensures.2 ∙ c.writer.invariant.1)
      (ap (λ s. s.me.0.spent) c.replace-old.ensures.value ∙ c.pass.invariant.1),
)

pub load-requires : goal.load-requires
load-requires c = (
  search rules,
  search rules,
  load-keeps_rule _ _ _ _ _ (ap (λ m. m.0.spent) c.join_seat.ensures.2 ∙ (ap (λ m. m.0.spent) c.split_seat-new.ensures.2 ∙ c.writer.invariant.1)),
)
