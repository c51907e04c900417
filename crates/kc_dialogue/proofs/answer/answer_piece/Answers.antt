-- A write that fails took a front of what the replier put.
use Rattle.std.proofs.Common.{◌≡◌, ◌++◌, List, ℕ, Some, subst, sym, take}
use Rattle.kc_wire.specs.Events.{TellsMore, wrote}
use Rattle.kc_dialogue.specs.Turns.{HasAdded}
use Rattle.kc_dialogue.specs.declared.end.DialogueEnd.{DialogueEnd}
use Rattle.kc_dialogue.proofs.Cuts.{HasAdded-fault, prefix-either, put-alone}
use Rattle.kc_dialogue.proofs.answer.answer_piece.Goals as goal

pub returns-in-Err-clause-added : goal.returns-in-Err-clause-added
returns-in-Err-clause-added g c =
    let (n, few, told, all) = c.in-Err.ensures.history in
    let (put, grown, adds) = c.feed-flow.ensures.put in
    let text : c.deref.result.now ≡ put =
    put-alone c.deref.result.now c.feed-flow.new.out.items c.clear.new.self.items put c.deref.ensures.value grown c.clear.ensures.items in (
      take n put,
      subst (λ (t : List ℕ). TellsMore (g.W.Wire.history c.args.wire.now) (g.W.Wire.history c.write_all.new.self) (wrote (take n t))) text told,
      λ fed h.
          let reply : List ℕ → List ℕ = g.R.Replier.reply c.args.replier.now in
          let reply_at_end : List ℕ → List ℕ = g.R.Replier.reply_at_end c.args.replier.now in
          subst (λ (how : DialogueEnd). HasAdded reply reply_at_end fed c.args.piece.now (take n put) (Some how)) (sym c.end_at.ensures)
          (HasAdded-fault reply reply_at_end fed c.args.piece.now (take n put) c.in-Err.fault
          (prefix-either c.feed-flow.result (reply (fed ++ c.args.piece.now)) (reply fed) put n (adds fed h))),
    )
