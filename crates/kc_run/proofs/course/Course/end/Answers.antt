-- The pass that is told the whole log is the last table's.
use Rattle.std.proofs.Common.{◌≡◌, ◌++◌, ◌∷◌, [], List, ap, subst, ◌∙◌}
use Rattle.kc_table.specs.Log.{PassSeen}
use Rattle.kc_journal.specs.Journals.{Journalled, Stands, all_seen}
use Rattle.kc_shared.specs.States.{Parted}
use Rattle.kc_run.specs.Courses.{Coursed}
use Rattle.kc_run.proofs.Batching.{run-ended}
use Rattle.kc_run.proofs.course.Course.end.Goals as goal

pub returns-clause-run : goal.returns-clause-run
returns-clause-run c = λ batches worked.
    let j : Journalled = c.args.self.journal in
    let at : c.parts.inside.journal ≡ j = ap (λ (p : Parted). p.journal) c.parts.view_is ∙ ap (λ (s : Coursed). s.journal) c.self.view_is in
    let stands : Stands j = subst Stands at c.recall_stands.ensures in
    run-ended batches c.args.ran.now.tables.items j (record { shares = c.args.ran.now.shares; tables = c.push_reserved.new.self }) stands worked
    (c.push_reserved.ensures.items ∙ (ap (λ (ps : List PassSeen). ps ++ c.tell.new.pass ∷ []) c.reserve.ensures.items
    ∙ ap (λ (p : PassSeen). c.args.ran.now.tables.items ++ p ∷ []) (c.tell.ensures.told ∙ ap all_seen at)))
