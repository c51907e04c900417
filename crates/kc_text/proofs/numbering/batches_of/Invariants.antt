-- The batches so far have their changes between the numbers that stand for their ids.
use Rattle.std.proofs.Common.{◌≡◌, take, map}
use Rattle.kc_text.specs.Inputs.{numbered_change, parts_of}
use Rattle.kc_text.proofs.numbering.batches_of.Given as goal

abbrev pub invariant-loop-batch : goal.invariant-loop-batch
invariant-loop-batch l =
    map (λ batch. map parts_of batch.items) l.updates.items
    ≡ map (λ batch. map (numbered_change l.ids) batch.items) (take l.batch-index l.batches)
