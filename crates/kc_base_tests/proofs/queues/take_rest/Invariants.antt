-- The consumer keeps all parts, and has taken what was told.
use Rattle.std.proofs.Common.{◌≡◌}
use Rattle.kc_queue.specs.declared.consumer.TheConstants.{PARTS}
use Rattle.kc_base_tests.proofs.queues.take_rest.Given as goal

abbrev pub invariant-loop : goal.invariant-loop
invariant-loop g l =
    (goal.iterator-loop g).can_next l.iterator' × (goal.iterator-loop g).is_finite l.iterator'
    × (l.all.queue ≡ l.queue) × (l.all.parts ≡ PARTS) × (l.all.taken ≡ l.told.items)
