-- The batch was entered whole: so its updates did what they do to the graph before it, and the run came on by it.
use Rattle.std.proofs.Common.{◌≡◌, ◌∙◌, arith, ap, refl}
use Rattle.std.proofs.lemmas.Result.{IfErr-at_err, IfOk-at_ok}
use Rattle.kc_batch.specs.Batches.{IsCutShort, IsBatchDone}
use Rattle.kc_batch.specs.declared.done.BatchDone.{BatchDone}
use Rattle.kc_batch.specs.declared.done.CutShort.{CutShort}
use Rattle.kc_run.specs.Courses.{Coursed}
use Rattle.kc_run.proofs.Batching.{Counted, Worked, batch-worked, cut-start, graph-after, outcomes-counted, same-start, whole-cut, worked-further}
use Rattle.kc_run.proofs.course.Course.work.Given.{Over}
use Rattle.kc_run.proofs.course.Course.work.Goals.{After-deref, After-deref-2}
use Rattle.kc_run.proofs.course.Course.work.Goals as goal

-- the batch was entered whole
module _ (g : Over) (c : After-deref g) where
  entered-whole : Worked c.args.self.journal c.run_batch-parts.result.0.journal c.entered_by-first.result c.args.batch.now
      c.self.inside.workers.len c.in-Ok.done
  entered-whole =
      batch-worked c.self.view_is c.entered_by-first.ensures.stands c.entered_by-first.ensures.entered c.run_batch-parts.ensures.stands c.requires.batch
      (IfOk-at_ok (λ (done : BatchDone). IsBatchDone c.self.inside.parts.journal c.run_batch-parts.result.0.journal c.entered_by-first.result
      c.args.batch.now c.self.inside.workers.len done) c.in-Ok.is c.run_batch-parts.ensures.done)

-- so it is once its outcomes are there, and these are counted
module _ (g : Over) (c : After-deref-2 g) where
  work-entered : Worked c.args.self.journal c.run_batch-parts.result.0.journal c.entered_by-first.result c.args.batch.now c.self.inside.workers.len c.in-Ok.done
  work-entered =
      batch-worked c.self.view_is c.entered_by-first.ensures.stands c.entered_by-first.ensures.entered c.run_batch-parts.ensures.stands c.requires.batch
      (IfOk-at_ok (λ (done : BatchDone). IsBatchDone c.self.inside.parts.journal c.run_batch-parts.result.0.journal c.entered_by-first.result
      c.args.batch.now c.self.inside.workers.len done) c.in-Ok.is c.run_batch-parts.ensures.done)

  work-counted : Counted c.args.self.journal.graph.edges c.entered_by-first.result c.args.batch.now c.deref-2.result.now
  work-counted = outcomes-counted work-entered c.deref-2.ensures.value c.in-Ok-outcomes_of.ensures c.deref.ensures.value

pub count-counts-requires-clause-within : goal.count-counts-requires-clause-within
count-counts-requires-clause-within g c = (work-counted g c).within

pub count-counts-requires-clause-few : goal.count-counts-requires-clause-few
count-counts-requires-clause-few g c = omega (arith, (work-counted g c).few, c.requires.few)

pub returns-in-Err-clause-started : goal.returns-in-Err-clause-started
returns-in-Err-clause-started g c =
    cut-start (IfErr-at_err (λ (cut : CutShort). IsCutShort c.self.inside.parts.journal c.run_batch-parts.result.0.journal c.entered_by-first.result
    c.args.batch.now c.self.inside.workers.len cut) c.in-Err.is c.run_batch-parts.ensures.cut_short)
    ∙ ap (λ (s : Coursed). s.journal.started) c.self.view_is

pub returns-in_default-clause-started : goal.returns-in_default-clause-started
returns-in_default-clause-started g c = same-start (entered-whole g (goal.at.returns-in_default-clause-started g c).After-deref)

pub returns-in_default-clause-cut_short : goal.returns-in_default-clause-cut_short
returns-in_default-clause-cut_short g c =
    whole-cut (entered-whole g (goal.at.returns-in_default-clause-cut_short g c).After-deref)
    (record { shares = c.in-Ok.done.shares; ended = c.in-Ok.done.ended }) c.args.self.workers refl refl
    (omega (arith, c.self.inside.workers.ok.0, ap (λ (s : Coursed). s.workers) c.self.view_is))

pub returns-clause-started : goal.returns-clause-started
returns-clause-started g c = same-start (work-entered g (goal.at.returns-clause-started g c).After-deref-2)

pub returns-clause-cut_short : goal.returns-clause-cut_short
returns-clause-cut_short g c =
    let back = c.in-Err-take_over.ensures.back in
    whole-cut (work-entered g (goal.at.returns-clause-cut_short g c).After-deref-2) c.in-Err-take_over.cut c.args.self.workers back.0 back.1
    (omega (arith, c.self.inside.workers.ok.0, ap (λ (s : Coursed). s.workers) c.self.view_is))

pub returns-in-Ok-take_over-clause-started : goal.returns-in-Ok-take_over-clause-started
returns-in-Ok-take_over-clause-started g c = same-start (work-entered g (goal.at.returns-in-Ok-take_over-clause-started g c).After-deref-2)

pub returns-in-Ok-take_over-clause-graph : goal.returns-in-Ok-take_over-clause-graph
returns-in-Ok-take_over-clause-graph g c = graph-after (work-entered g (goal.at.returns-in-Ok-take_over-clause-graph g c).After-deref-2)

pub returns-in-Ok-take_over-clause-added : goal.returns-in-Ok-take_over-clause-added
returns-in-Ok-take_over-clause-added g c =
    c.count-counts.ensures.added ∙ (work-counted g (goal.at.returns-in-Ok-take_over-clause-added g c).After-deref-2).added

pub returns-in-Ok-take_over-clause-removed : goal.returns-in-Ok-take_over-clause-removed
returns-in-Ok-take_over-clause-removed g c =
    c.count-counts.ensures.removed ∙ (work-counted g (goal.at.returns-in-Ok-take_over-clause-removed g c).After-deref-2).removed

pub returns-in-Ok-take_over-clause-kept : goal.returns-in-Ok-take_over-clause-kept
returns-in-Ok-take_over-clause-kept g c =
    c.count-counts.ensures.kept ∙ (work-counted g (goal.at.returns-in-Ok-take_over-clause-kept g c).After-deref-2).kept

pub returns-in-Ok-take_over-clause-worked : goal.returns-in-Ok-take_over-clause-worked
returns-in-Ok-take_over-clause-worked g c = λ batches h.
    worked-further (work-entered g (goal.at.returns-in-Ok-take_over-clause-worked g c).After-deref-2) batches c.args.ran.now.tables.items
    c.take_over.new.self.tables.items c.args.ran.now.shares.items c.take_over.new.self.shares.items c.in-Ok-take_over.ensures.tables
    c.in-Ok-take_over.ensures.shares h
