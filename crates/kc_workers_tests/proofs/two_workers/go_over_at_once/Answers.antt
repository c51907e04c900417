-- The two threads share the state, and each has an entrant of its own.
use mir.Syntax.{Sym, named}
use denote.Exit.{no}
use denote.RattleType.{RattleType}
use denote.Struct.Declared.{Declared, shape}
use denote.Struct.Struct.{Struct}
use denote.Struct.Tuple.{TupleAt}
use denote.Param.{param}
use denote.Param.Send.{IsSend, arg_send, param_send, recorded_send, shr_send, struct_send, view_send}
use Rattle.std.specs.Prelude.{[], ◌∷◌}
use Rattle.std.specs.declared.sync.ledger.Ledger as ledger
use Rattle.std.proofs.sync.ledger.Share.TheSendSync as share
use Rattle.kc_table.specs.declared.name.Name as name
use Rattle.kc_view.proofs.Crossing.{scratch_send}
use Rattle.kc_stripes.proofs.Crossing.{captures_send, pass_send}
use Rattle.kc_workers.specs.contracts.worker.Worker.TheInside as worker_inside
use Rattle.kc_workers.specs.contracts.worker.Worker as worker
use Rattle.kc_workers_tests.specs.contracts.entrant.Entrant as entrant
use Rattle.kc_shared.proofs.Crossing.{shared_sync}
use Rattle.kc_workers_tests.proofs.two_workers.go_over_at_once.Goals as goal

-- a worker may go to another thread
worker_send : IsSend worker.the_row
worker_send =
    let T : Declared = worker_inside.the_type in
    view_send _ _ _ _ _ (recorded_send (Struct (shape T)) T.D T.to T.to_one (struct_send (shape T) (pass_send, (scratch_send, tt))))

-- who enters updates may go to another thread
entrant_send : (K : RattleType) (n : name.Ghosts K.Denot) (l : ledger.Ghosts K.Denot) → IsSend (entrant.the_row K n l)
entrant_send K n l =
    let T : Declared = entrant.the_type K n l in
    recorded_send (Struct (shape T)) T.D T.to T.to_one
    (struct_send (shape T) (worker_send, (share.the_send K l, tt)))

-- three values that may go to another thread may go together
three_send : (ν : Sym) (A B C : RattleType) → IsSend A → IsSend B → IsSend C → IsSend (TupleAt ν (A ∷ B ∷ C ∷ []))
three_send ν A B C a b c = captures_send ν (A ∷ B ∷ C ∷ []) (a, (b, (c, tt)))

pub join-first-requires-send-F : goal.join-first-requires-send-F
join-first-requires-send-F g c κs within =
    param_send 1 _ (arg_send _ no _ (three_send _ _ _ _ (entrant_send (param 0 g.row.K) _ _) (shr_send (named 6) _ _ c.type_bounds.sync-R)
    (shr_send (named 7) _ _ (shared_sync _ _ _ c.type_bounds.send-K c.type_bounds.sync-K))))
