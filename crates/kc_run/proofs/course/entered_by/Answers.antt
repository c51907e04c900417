-- What holds of the journal inside is said of what contracts see of the parts.
use Rattle.std.proofs.Common.{◌≡◌, ap, subst, length, ◌∙◌}
use Rattle.kc_journal.specs.Journals.{Stands}
use Rattle.kc_shared.specs.States.{Parted}
use Rattle.kc_run.proofs.course.entered_by.Goals as goal

pub returns-clause-entered : goal.returns-clause-entered
returns-clause-entered c = ap length c.entries.ensures ∙ ap (λ (p : Parted). length p.journal.entries) c.parts.view_is

pub returns-clause-stands : goal.returns-clause-stands
returns-clause-stands c = subst Stands (ap (λ (p : Parted). p.journal) c.parts.view_is) c.recall_stands.ensures

pub returns-clause-table : goal.returns-clause-table
returns-clause-table c = subst (λ (p : Parted). p.journal.levels.table ≡ p.words) c.parts.view_is c.parts.invariant.table
