-- The threads share what is behind references, and each call leaves its seat as `work` says.
use denote.Exit.{no}
use denote.Param.{param}
use denote.Param.Send.{arg_send, arg_sync, param_send, param_sync, shr_sync}
use Rattle.std.proofs.Common.{[], ◌∷◌, get_or, subst, arith}
use Rattle.kc_batch.specs.Seats.{KeepsIfSpent, Seated, WorksOn}
use Rattle.kc_batch.proofs.Crossing.{captures_sync, seat_send, turns_sync, workplace_sync}
use Rattle.kc_batch.proofs.Rounding.{zip-of}
use Rattle.kc_batch.proofs.round.work_all.Goals as goal

pub for_each_mut-requires-send-T : goal.for_each_mut-requires-send-T
for_each_mut-requires-send-T g c κs within = param_send 1 _ (arg_send _ no _ (seat_send (param 0 g.row.K) g.K.Name g.K.Ledger))

pub for_each_mut-requires-sync-F : goal.for_each_mut-requires-sync-F
for_each_mut-requires-sync-F g c κs within =
    param_sync 2 _ (arg_sync _ no _ (captures_sync _ (_ ∷ _ ∷ _ ∷ []) (
      shr_sync _ _ _ c.type_bounds.sync-R,
      (
        shr_sync _ _ _ (workplace_sync _ _ _ _ _ c.type_bounds.send-K c.type_bounds.sync-K c.type_bounds.sync-G),
        (shr_sync _ _ _ (turns_sync _), tt),
      ),
    )))

pub returns : goal.returns
returns g c =
    let n = g.K.Name in
    let o = n.opened in
    let Mine : Seated → Seated → Type 0 = λ a b. WorksOn o n.log c.args.turns.now a b × KeepsIfSpent o b.seen.log b.work.left in
    record {
      works = zip-of Mine c.args.seats.now c.for_each_mut.new.s (omega arith) (λ i d l.
          let k = (c.for_each_mut.ensures i d l).1 in
          subst (λ (z : Seated). Mine z (get_or c.for_each_mut.new.s i d)) k.argument_is (subst (λ (z : Seated). Mine k.argument.now z) k.left k.call));
    }
