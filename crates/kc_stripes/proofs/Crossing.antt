-- What threads may share of a table and its stripes: a stripe may go to another thread, so stripes behind locks may be shared.
use mir.Syntax.{Sym}
use denote.RattleType.{RattleType}
use denote.Struct.Declared.{Declared, shape}
use denote.Struct.Field.{rows}
use denote.Struct.Struct.{Struct}
use denote.Struct.Tuple.{TupleAt, parts, type_at}
use denote.Param.Send.{AllSend, IsSend, IsSync, recorded_send, sendable, struct_send}
use Rattle.std.specs.Prelude.{List, [], ◌∷◌}
use Rattle.std.proofs.Crossing.{crosses}
use Rattle.std.specs.contracts.vec.Vec as vec
use Rattle.std.specs.contracts.alloc.Global as heap
use Rattle.std.specs.contracts.impls.GlobalAllocator.TheImpl as allocator
use Rattle.atomic_table.proofs.shared.Seat.TheSendSync as seat
use Rattle.atomic_table.proofs.shared.Shared.TheSendSync as shared
use Rattle.atomic_table.proofs.send_lease.SendLease.TheSendSync as lease
use Rattle.kc_graph.specs.contracts.used.UsedEdges as used
use Rattle.kc_graph.specs.contracts.shared.SharedGraph as graph
use Rattle.kc_table.specs.contracts.pass.Pass as pass
use Rattle.kc_table.specs.contracts.words.Words as words
use Rattle.kc_table.specs.declared.name.Name as name
use Rattle.kc_stripes.specs.contracts.stripe.Stripe as stripe
use Rattle.kc_stripes.specs.contracts.stripes.Stripes as stripes

-- a pass may go to another thread
pub pass_send : IsSend pass.the_field.row
pass_send = search (sendable, crosses, seat.the_send) depth 20

-- threads may share the words of a table
pub words_sync : IsSync words.the_row
words_sync = search (sendable, crosses, shared.the_sync, lease.the_sync) depth 20

-- threads may share a graph
pub graph_sync : IsSync graph.the_row
graph_sync = search (sendable, crosses) depth 20

-- a record of a list may go to another thread
used_send : IsSend used.the_row
used_send = search (sendable, crosses) depth 20

-- a vector of records may go to another thread
records_send : IsSend (vec.the_field used.the_row heap.the_row allocator.ghosts).row
records_send = search (sendable, crosses, used_send) depth 20

-- a stripe may go to another thread
pub stripe_send : IsSend stripe.the_row
stripe_send = search (sendable, crosses, pass_send, records_send) depth 20

-- threads may share the stripes, each behind its lock
pub stripes_sync : (K : RattleType) (g : name.Ghosts K.Denot) → IsSend K → IsSync K → IsSync (stripes.the_row K g)
stripes_sync K g s y = search (sendable, crosses, stripe_send) depth 20

-- where each of some types may go to another thread, so may each of their parts
each_part : (Ts : List RattleType) → AllSend Ts → AllSend (rows (parts Ts))
each_part [] s = tt
each_part (T ∷ Ts) s = (s.0, each_part Ts s.1)

-- a closure may go to another thread where each of its captures may
pub captures_send : (ν : Sym) (Ts : List RattleType) → AllSend Ts → IsSend (TupleAt ν Ts)
captures_send ν Ts s =
    let T : Declared = type_at ν Ts in recorded_send (Struct (shape T)) T.D T.to T.to_one (struct_send (shape T) (each_part Ts s))
