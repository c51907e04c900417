-- The two threads share the stripes, and each has a pass of its own.
use mir.Syntax.{Sym}
use denote.Exit.{no}
use denote.RattleType.{RattleType}
use denote.Struct.Tuple.{TupleAt}
use denote.Param.Send.{IsSend, arg_send, param_send, shr_send}
use Rattle.std.specs.Prelude.{[], ◌∷◌}
use Rattle.kc_stripes.proofs.Crossing.{captures_send, graph_sync, pass_send, stripes_sync, words_sync}
use Rattle.kc_agree_tests.proofs.publishing.publish_and_read.Goals as goal

-- five values that may go to another thread may go together
five_send : (ν : Sym) (A B C D E : RattleType) → IsSend A → IsSend B → IsSend C → IsSend D → IsSend E → IsSend (TupleAt ν (A ∷ B ∷ C ∷ D ∷ E ∷ []))
five_send ν A B C D E a b c d e = captures_send ν (A ∷ B ∷ C ∷ D ∷ E ∷ []) (a, (b, (c, (d, (e, tt)))))

pub join-requires-send-F : goal.join-requires-send-F
join-requires-send-F g c κs within =
    param_send 1 _ (arg_send _ no _ (five_send _ _ _ _ _ _ (shr_send _ _ _ c.type_bounds.sync-R) (shr_send _ _ _ words_sync)
    (shr_send _ _ _ (stripes_sync _ _ c.type_bounds.send-K c.type_bounds.sync-K)) pass_send (shr_send _ _ _ graph_sync)))
