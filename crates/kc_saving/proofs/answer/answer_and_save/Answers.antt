-- The reply to what was fed before is written first. Then the dialogue has ended, or it goes on.
use Rattle.std.proofs.Common.{◌≡◌, ◌++◌, ◌∙◌, List, ℕ, arith, subst, sym, take, take_all}
use Rattle.kc_wire.specs.Events.{TellsMore, wrote}
use Rattle.kc_dialogue.specs.Openings.{behind}
use Rattle.kc_dialogue.specs.declared.end.DialogueEnd.{DialogueEnd}
use Rattle.kc_dialogue.proofs.Behind.{HasAnswered-cut, HasAnswered-opened, IsGoing-opened, fed-opened, prefix-opened}
use Rattle.kc_dialogue.proofs.Cuts.{TellsMore-trans}
use Rattle.kc_dialogue.proofs.Events.{reads_in-wrote}
use Rattle.kc_watch.specs.Text.{reply, reply_at_end}
use Rattle.kc_watch.specs.Watching.{WasFed}
use Rattle.kc_watch.specs.declared.options.WatchOptions.{WatchOptions}
use Rattle.kc_saving.specs.Saving.{HasKept}
use Rattle.kc_saving.specs.declared.end.SavingEnd.TheVariants.{Dialogue}
use Rattle.kc_saving.proofs.Turned.{kept-cut, kept-opened}
use Rattle.kc_saving.proofs.answer.answer_and_save.Goals as goal

pub returns-in-Err-clause-kept : goal.returns-in-Err-clause-kept
returns-in-Err-clause-kept g c = λ start opened.
    let (n, few, told, all) = c.in-Err.ensures.history in
    let options : WatchOptions = c.args.made.now.watcher.options in
    let text : List ℕ = c.args.opening.now.text.items in
    let holds = g.P.Folder.holds c.args.folder.now in (
      wrote (take n text),
      subst (λ (t : List ℕ). TellsMore (g.W.Wire.history c.args.wire.now) (g.W.Wire.history c.write_all.new.self) (wrote (take n t)))
          c.deref.ensures.value told,
      subst (λ (how : DialogueEnd). HasKept options c.args.saves.file.now c.args.saves.every holds holds start c.args.made.now.watcher (wrote (take n text))
          (Dialogue how)) (sym c.end_at.ensures)
          (kept-cut options c.args.saves.file.now c.args.saves.every holds start c.args.made.now.watcher (wrote (take n text)) c.in-Err.fault
          (HasAnswered-cut (behind (reply options) start) (behind (reply_at_end options) start) (take n text) c.in-Err.fault
          (prefix-opened (reply options) start text n opened.said))),
    )

pub answer_open-requires : goal.answer_open-requires
answer_open-requires g c =
    let (start, opened) = c.requires in
    let text : List ℕ = c.args.opening.now.text.items in (
      start,
      wrote text,
      IsGoing-opened (reply c.args.made.now.watcher.options) (WasFed c.args.made.now.watcher) start text opened.fed opened.said,
      reads_in-wrote text,
    )

pub returns-in-Ended-clause-kept : goal.returns-in-Ended-clause-kept
returns-in-Ended-clause-kept g c = λ start opened.
    let (n, few, told, all) = c.in_default.ensures.history in
    let options : WatchOptions = c.args.made.now.watcher.options in
    let text : List ℕ = c.args.opening.now.text.items in
    let whole : take n c.deref.result.now ≡ text = take_all n c.deref.result.now (omega (arith, all)) ∙ c.deref.ensures.value in (
      wrote text,
      subst (λ (t : List ℕ). TellsMore (g.W.Wire.history c.args.wire.now) (g.W.Wire.history c.write_all.new.self) (wrote t)) whole told,
      kept-opened options c.args.saves.file.now c.args.saves.every (g.P.Folder.holds c.args.folder.now) start c.args.made.now.watcher (wrote text)
          (HasAnswered-opened (reply options) (reply_at_end options) start text opened.said (opened.ended c.in-Ended.is))
          (fed-opened (WasFed c.args.made.now.watcher) start text opened.fed),
    )

pub returns-in-Open-clause-kept : goal.returns-in-Open-clause-kept
returns-in-Open-clause-kept g c = λ start opened.
    let (n, few, told, all) = c.in_default.ensures.history in
    let options : WatchOptions = c.args.made.now.watcher.options in
    let text : List ℕ = c.args.opening.now.text.items in
    let whole : take n c.deref.result.now ≡ text = take_all n c.deref.result.now (omega (arith, all)) ∙ c.deref.ensures.value in
    let (events, more, kept) = c.answer_open.ensures.kept start (wrote text)
    (IsGoing-opened (reply options) (WasFed c.args.made.now.watcher) start text opened.fed opened.said) (reads_in-wrote text) in (
      wrote text ++ events,
      TellsMore-trans (g.W.Wire.history c.args.wire.now) (g.W.Wire.history c.write_all.new.self) (g.W.Wire.history c.answer_open.new.wire) (wrote text) events
          (subst (λ (t : List ℕ). TellsMore (g.W.Wire.history c.args.wire.now) (g.W.Wire.history c.write_all.new.self) (wrote t)) whole told) more,
      kept,
    )
