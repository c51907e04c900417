-- Both consumers have a part, and so has the one that takes over the other's.
use Rattle.std.proofs.Common.{◌<◌, subst, sym, arith}
use Rattle.kc_queue.specs.declared.dealing.Hand.{Hand}
use Rattle.kc_queue.proofs.Steps.{consumer-owns, parts-merge}
use Rattle.kc_queue.proofs.queue.WorkQueue.join.Goals as goal

pub absorb-requires-clause-rule : goal.absorb-requires-clause-rule
absorb-requires-clause-rule c = parts-merge _ _ _ _ c.consumer.invariant.1

pub learn_as-requires-clause-rule : goal.learn_as-requires-clause-rule
learn_as-requires-clause-rule c =
    let some = c.consumer.invariant.1 in consumer-owns _ _ (subst (λ (v : Hand). 0 < v.parts) (sym c.absorb.ensures.rule) (omega arith))
