-- The outcomes of one share more.
use Rattle.std.proofs.Common.{◌≡◌, ◌∙◌, ◌+◌, ◌++◌, ◌∷◌, [], List, ap, ap₂, map, sym, take}
use Rattle.std.proofs.lemmas.List.{take_more}
use Rattle.kc_batch_effects.specs.declared.outcome.Outcome.{Outcome}
use Rattle.kc_workers.specs.declared.done.Done.{Done}
use Rattle.kc_workers.specs.declared.share.WorkerShare.{WorkerShare}
use Rattle.kc_batch.specs.Batches.{receipts_in}
use Rattle.kc_run.specs.Outcomes.{outcome_of}
use Rattle.kc_run.proofs.Telling.{outcomes-more}
use Rattle.kc_run.proofs.counting.outcomes_of.Goals as goal

pub loop-share-preserved : goal.loop-share-preserved
loop-share-preserved c =
    let shares : List WorkerShare = c.args.shares.now in
    let i = c.loop-share.share-index in
    let share : WorkerShare = c.share-item.result in
    let seam : take (i + 1) shares ≡ take i shares ++ share ∷ [] =
    take_more shares i share c.loop-share-test.true ∙ ap (λ (s : WorkerShare). take i shares ++ s ∷ []) (sym c.share-item.is) in
    c.in_ok-put_outcomes.ensures
    ∙ (ap₂ (λ (os : List Outcome) (ds : List Done). os ++ map (λ (d : Done). outcome_of d.receipt) ds) c.loop-share.invariant c.deref.ensures.value
    ∙ (outcomes-more (take i shares) share ∙ ap (λ (ss : List WorkerShare). map outcome_of (receipts_in ss)) (sym seam)))
