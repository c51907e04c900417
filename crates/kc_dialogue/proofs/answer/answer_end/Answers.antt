-- A write that fails took a front of what the replier put.
use Rattle.std.proofs.Common.{◌≡◌, List, ℕ, subst, sym, take}
use Rattle.kc_wire.specs.Events.{TellsMore, wrote}
use Rattle.kc_dialogue.specs.Turns.{HasAddedAtEnd}
use Rattle.kc_dialogue.specs.declared.end.DialogueEnd.{DialogueEnd}
use Rattle.kc_dialogue.proofs.Cuts.{HasAddedAtEnd-fault, prefix-either, put-alone}
use Rattle.kc_dialogue.proofs.answer.answer_end.Goals as goal

pub returns-in-Err-clause-added : goal.returns-in-Err-clause-added
returns-in-Err-clause-added g c =
    let (n, few, told, all) = c.in-Err.ensures.history in
    let (put, grown, adds) = c.end-ended.ensures.put in
    let text : c.deref.result.now ≡ put =
    put-alone c.deref.result.now c.end-ended.new.out.items c.clear.new.self.items put c.deref.ensures.value grown c.clear.ensures.items in (
      take n put,
      subst (λ (t : List ℕ). TellsMore (g.W.Wire.history c.args.wire.now) (g.W.Wire.history c.write_all.new.self) (wrote (take n t))) text told,
      λ fed h.
          let reply : List ℕ → List ℕ = g.R.Replier.reply c.args.replier.now in
          let reply_at_end : List ℕ → List ℕ = g.R.Replier.reply_at_end c.args.replier.now in
          subst (λ (how : DialogueEnd). HasAddedAtEnd reply reply_at_end fed (take n put) how) (sym c.end_at.ensures)
          (HasAddedAtEnd-fault reply reply_at_end fed (take n put) c.in-Err.fault
          (prefix-either c.end-ended.result (reply_at_end fed) (reply fed) put n (adds fed h))),
    )
