-- With an empty log the rule holds of the opening words, which are the table's own.
use Rattle.std.proofs.Common.{List, [], ℕ, ap, sym, subst, rules}
use Rattle.atomic_table.specs.Table.{opening}
use Rattle.kc_table.specs.declared.view.Opening.{Opening}
use Rattle.kc_table.specs.Rule.{KeepsTable, first_view}
use Rattle.kc_table.proofs.LegalLogs.{legal-nil}
use Rattle.kc_table.proofs.Steps.{opening-keeps_rule, split-keeps_rule}
use Rattle.kc_table.proofs.table.open.Goals as goal

pub of_words-requires : goal.of_words-requires
of_words-requires c =
    let k : Opening = record { shape = c.args.shape; words = c.args.words } in
    subst (λ (ws : List ℕ). KeepsTable {S = ℕ} k (opening ws [] (first_view k))) (sym c.deref.ensures.value)
    (opening-keeps_rule k [] (legal-nil c.args.shape c.args.words.items c.requires))

pub split_seat-requires : goal.split_seat-requires
split_seat-requires c = (search rules, search rules, split-keeps_rule _ _ _ (ap (λ m. m.0.spent) c.in_ok-table.ensures.4))
