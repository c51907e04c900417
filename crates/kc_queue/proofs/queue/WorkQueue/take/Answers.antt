-- What a consumer has after a pop is a share again.
use Rattle.std.proofs.Common.{ap, ◌∙◌, subst}
use Rattle.kc_queue.specs.Shares.{Consuming, IsShare}
use Rattle.kc_queue.proofs.Steps.{number-leaves, has_taken_all, after_take}
use Rattle.kc_queue.proofs.queue.WorkQueue.take.Goals as goal

pub pop_as-requires-clause-rule : goal.pop_as-requires-clause-rule
pop_as-requires-clause-rule g c = (number-leaves _ _ c.consumer.invariant.1, has_taken_all _ _ c.consumer.invariant.1)

pub invariant_of-consumer : goal.invariant_of-consumer
invariant_of-consumer g c =
    let after = after_take c.pop_as.result _ _ c.pop_as.ensures.rule c.consumer.invariant.1 c.consumer.invariant.2 in
    (c.pop_as.ensures.queue.2 ∙ c.consumer.invariant.0, after.part, after.share)

pub returns-clause-share : goal.returns-clause-share
returns-clause-share g c =
    let after = after_take c.pop_as.result _ _ c.pop_as.ensures.rule c.consumer.invariant.1 c.consumer.invariant.2 in
    let count = after.filled ∙ (ap (λ (k : Consuming). k.queue.count) c.consumer.view_is ∙ ap (λ q. q.count) c.requires.queue) in
    subst (λ n. IsShare n c.pop_as.new.pass.me.0.client.taken) count after.share
