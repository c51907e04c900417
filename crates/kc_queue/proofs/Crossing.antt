-- What threads may share of a queue: the queue itself, and a consumer may go to another thread.
use denote.Param.Send.{IsSend, IsSync, sendable}
use Rattle.std.proofs.Crossing.{crosses}
use Rattle.atomic_table.proofs.shared.Seat.TheSendSync as seat
use Rattle.atomic_table.proofs.shared.Shared.TheSendSync as shared
use Rattle.atomic_table.proofs.send_lease.SendLease.TheSendSync as lease
use Rattle.kc_queue.specs.contracts.consumer.Consumer as consumer
use Rattle.kc_queue.specs.contracts.queue.WorkQueue as queue

-- a consumer may go to another thread
pub consumer_send : IsSend consumer.the_field.row
consumer_send = search (sendable, crosses, seat.the_send) depth 20

-- threads may share the queue
pub queue_sync : IsSync queue.the_row
queue_sync = search (sendable, crosses, shared.the_sync, lease.the_sync) depth 20
