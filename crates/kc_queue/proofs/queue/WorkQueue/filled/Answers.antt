-- The rule holds of an empty queue whose first consumer has all parts.
use Rattle.kc_queue.proofs.Steps.{consumer-begins}
use Rattle.kc_queue.proofs.queue.WorkQueue.filled.Goals as goal

pub ruled-requires-clause-rule : goal.ruled-requires-clause-rule
ruled-requires-clause-rule g c = consumer-begins
