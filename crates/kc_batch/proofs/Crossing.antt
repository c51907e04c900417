-- What the threads of a round share, the workplace and the queue of turns, and what each takes with it, its seat, part by part.
-- One search over all runs out of steps.
use mir.Syntax.{Sym}
use denote.RattleType.{RattleType}
use denote.Ref.{NamedLft}
use denote.Struct.Declared.{Declared, shape}
use denote.Struct.Field.{rows}
use denote.Struct.Struct.{Struct}
use denote.Struct.Tuple.{TupleAt, parts, type_at}
use denote.Param.Send.{AllSync, IsSend, IsSync, recorded_send, recorded_sync, sendable, shr_slice_sync, shr_sync, struct_send, struct_sync, view_send}
use Rattle.std.specs.Prelude.{List, [], ◌∷◌}
use Rattle.std.proofs.Crossing.{crosses}
use Rattle.std.proofs.sync.ledger.Share.TheSendSync as share
use Rattle.kc_queue.proofs.Crossing.{consumer_send, queue_sync}
use Rattle.kc_shared.proofs.Crossing.{shared_sync}
use Rattle.kc_stripes.proofs.Crossing.{pass_send}
use Rattle.kc_view.proofs.Crossing.{scratch_send}
use Rattle.kc_workers.specs.contracts.worker.Worker as worker
use Rattle.kc_workers.specs.contracts.worker.Worker.TheInside as worker_inside
use Rattle.kc_graph.specs.contracts.update.Update as update
use Rattle.kc_table.specs.declared.name.Name as name
use Rattle.std.specs.declared.sync.ledger.Ledger as ledger
use Rattle.kc_workers.specs.contracts.workplace.Workplace as workplace
use Rattle.kc_batch.specs.contracts.desk.Desk as desk
use Rattle.kc_batch.specs.contracts.desk.Desk.TheInside as desk_inside
use Rattle.kc_batch.specs.contracts.indexed.IndexedBatch as batch
use Rattle.kc_batch.specs.contracts.turns.TurnQueue as turns
use Rattle.kc_batch.specs.contracts.seat.Seat as seat
use Rattle.kc_batch.specs.contracts.seat.Seat.TheInside as seat_inside

-- threads may share an update
update_sync : IsSync update.the_row
update_sync = search (sendable, crosses) depth 20

-- threads may share a batch
batch_sync : (κ : NamedLft) → IsSync (batch.the_field κ).row
batch_sync κ = struct_sync (shape (batch.the_type κ)) (search (sendable, crosses) depth 20, (shr_slice_sync _ _ _ update_sync, tt))

-- threads may share a queue of turns
pub turns_sync : (κ : NamedLft) → IsSync (turns.the_row κ)
turns_sync κ =
    let T : Declared = turns.the_type κ in
    recorded_sync (Struct (shape T)) T.D T.to T.to_one
    (struct_sync (shape T) (batch_sync κ, (queue_sync, (search (sendable, crosses) depth 20, tt))))

-- threads may share a workplace
pub workplace_sync : (κ : NamedLft) (K G : RattleType) (n : name.Ghosts K.Denot) (l : ledger.Ghosts K.Denot) → IsSend K → IsSync K → IsSync G
    → IsSync (workplace.the_row κ K G n l)
workplace_sync κ K G n l s y z =
    let T : Declared = workplace.the_type κ K G n l in
    recorded_sync (Struct (shape T)) T.D T.to T.to_one
    (struct_sync (shape T) (shr_sync _ _ _ (shared_sync K n l s y), (shr_sync _ _ _ z, (search (sendable, crosses) depth 20, tt))))

-- where threads may share each of some types, they may share each of their parts
each_part : (Ts : List RattleType) → AllSync Ts → AllSync (rows (parts Ts))
each_part [] s = tt
each_part (T ∷ Ts) s = (s.0, each_part Ts s.1)

-- threads may share a closure where they may share each of its captures
pub captures_sync : (ν : Sym) (Ts : List RattleType) → AllSync Ts → IsSync (TupleAt ν Ts)
captures_sync ν Ts s =
    let T : Declared = type_at ν Ts in recorded_sync (Struct (shape T)) T.D T.to T.to_one (struct_sync (shape T) (each_part Ts s))

-- a worker may go to another thread
worker_send : IsSend worker.the_row
worker_send =
    let T : Declared = worker_inside.the_type in
    view_send _ _ _ _ _ (recorded_send (Struct (shape T)) T.D T.to T.to_one (struct_send (shape T) (pass_send, (scratch_send, tt))))

-- a desk may go to another thread
desk_send : IsSend desk.the_row
desk_send =
    let T : Declared = desk_inside.the_type in
    view_send _ _ _ _ _ (recorded_send (Struct (shape T)) T.D T.to T.to_one
    (struct_send (shape T) (worker_send, (search (sendable, crosses) depth 20, (search (sendable, crosses) depth 20, tt)))))

-- a seat may go to another thread
pub seat_send : (K : RattleType) (n : name.Ghosts K.Denot) (l : ledger.Ghosts K.Denot) → IsSend (seat.the_row K n l)
seat_send K n l =
    let T : Declared = seat_inside.the_type K n l in
    view_send _ _ _ _ _ (recorded_send (Struct (shape T)) T.D T.to T.to_one
    (struct_send (shape T) (
      desk_send,
      (
        share.the_send K l,
        (
          consumer_send,
          (search (sendable, crosses) depth 20, (search (sendable, crosses) depth 20, tt)),
        ),
      ),
    )))
