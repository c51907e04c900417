-- The course begins with the state, and nothing was left of a run before it.
use Rattle.std.proofs.Common.{◌≡◌, ℕ, List, [], map, sym, ap, subst}
use Rattle.std.proofs.lemmas.Result.{IfOk-weaker}
use Rattle.kc_graph.specs.SimpleGraph.{SimpleGraph}
use Rattle.kc_graph.specs.Lawful.{Ranked}
use Rattle.kc_text.specs.Inputs.{EdgeBatch, parts_of_batch}
use Rattle.kc_table.specs.Log.{PassSeen}
use Rattle.kc_workers.specs.declared.share.WorkerShare.{WorkerShare}
use Rattle.kc_batch.specs.Batches.{receipts_in}
use Rattle.kc_run.specs.Courses.{Coursed, HasWorked}
use Rattle.kc_output.specs.Text.{TellsBatches, shown_each}
use Rattle.kc_output.proofs.text.put_worked.Goals as goal

pub returns-clause-text : goal.returns-clause-text
returns-clause-text g c =
    let start : Ranked = c.args.lawful in
    let course : Coursed = c.in_ok-course.course in
    let shown : List ℕ → List ℕ = shown_each c.args.work.now.setting.show c.args.input.now.ids.items in
    let batches : List EdgeBatch = map parts_of_batch c.args.input.now.batches.items in
    let before : List ℕ = c.args.text.now.items in
    let written : List ℕ = c.put_batches.new.text.items in
    let core : course.journal.levels.core ≡ start.core = ap (λ (s : Ranked). s.core) c.in_ok-course.ensures.state in
    let same : course.journal.graph ≡ start.graph = ap (λ (s : Ranked). s.graph) c.in_ok-course.ensures.state in
    IfOk-weaker c.put_batches.result _ _ (λ after tells.
    subst (λ (cs : List ℕ). TellsBatches shown 1 start.graph cs batches before written after.journal.levels.core) core
    (subst (λ (x : SimpleGraph). TellsBatches shown 1 x course.journal.levels.core batches before written
    after.journal.levels.core) same tells)) c.put_batches.ensures.text

pub returns-clause-worked : goal.returns-clause-worked
returns-clause-worked g c =
    let course : Coursed = c.in_ok-course.course in
    let opened : HasWorked [] c.args.ran.now.tables.items (receipts_in c.args.ran.now.shares.items) course.journal =
    subst (λ (ps : List PassSeen). HasWorked [] ps (receipts_in c.args.ran.now.shares.items) course.journal) (sym c.requires.empty.tables)
    (subst (λ (ss : List WorkerShare). HasWorked [] [] (receipts_in ss) course.journal) (sym c.requires.empty.shares) c.in_ok-course.ensures.worked) in
    IfOk-weaker c.put_batches.result _ _ (λ _ worked. worked opened) c.put_batches.ensures.worked
