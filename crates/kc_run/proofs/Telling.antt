-- What shares tell, one after the other.
use Rattle.std.proofs.Common.{◌≡◌, List, [], ◌∷◌, ◌++◌, map, sym, ap, ◌∙◌, append-nil}
use Rattle.std.proofs.lemmas.Grind.{flat_map-append}
use Rattle.std.proofs.lemmas.List.{map-append}
use Rattle.std.proofs.lemmas.Simd.{map-map}
use Rattle.kc_batch_effects.specs.declared.outcome.Outcome.{Outcome}
use Rattle.kc_journal.specs.declared.answer.Receipt.{Receipt}
use Rattle.kc_workers.specs.declared.done.Done.{Done}
use Rattle.kc_workers.specs.declared.share.WorkerShare.{WorkerShare}
use Rattle.kc_batch.specs.Batches.{done_in, receipts_in}
use Rattle.kc_run.specs.Outcomes.{outcome_of}

-- the receipts of shares one after the other
pub receipts-append : (xs ys : List WorkerShare) → receipts_in (xs ++ ys) ≡ receipts_in xs ++ receipts_in ys
receipts-append xs ys =
    ap (λ (ds : List Done). map (λ (d : Done). d.receipt) ds) (flat_map-append (λ (s : WorkerShare). s.done.items) xs ys)
    ∙ map-append (λ (d : Done). d.receipt) (done_in xs) (done_in ys)

-- The outcomes of one share more stand behind those of the shares before it.
pub outcomes-more : (shares : List WorkerShare) (share : WorkerShare)
    → map outcome_of (receipts_in shares) ++ map (λ (d : Done). outcome_of d.receipt) share.done.items
    ≡ map outcome_of (receipts_in (shares ++ share ∷ []))
outcomes-more shares share =
    let of_share : receipts_in (share ∷ []) ≡ map (λ (d : Done). d.receipt) share.done.items =
    ap (λ (ds : List Done). map (λ (d : Done). d.receipt) ds) (append-nil share.done.items) in
    let all : receipts_in (shares ++ share ∷ []) ≡ receipts_in shares ++ map (λ (d : Done). d.receipt) share.done.items =
    receipts-append shares (share ∷ []) ∙ ap (λ (rs : List Receipt). receipts_in shares ++ rs) of_share in
    sym (ap (λ (rs : List Receipt). map outcome_of rs) all
    ∙ (map-append outcome_of (receipts_in shares) (map (λ (d : Done). d.receipt) share.done.items)
    ∙ ap (λ (os : List Outcome). map outcome_of (receipts_in shares) ++ os)
    (map-map outcome_of (λ (d : Done). d.receipt) share.done.items)))
