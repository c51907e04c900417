-- The turns have ended otherwise, or a state was not saved, or the stream has ended and the last state is saved or not.
use Rattle.std.proofs.Common.{◌++◌, subst, sym}
use Rattle.kc_dialogue.specs.Openings.{behind}
use Rattle.kc_watch.specs.Text.{reply, reply_at_end}
use Rattle.kc_watch.specs.declared.options.WatchOptions.{WatchOptions}
use Rattle.kc_saving.specs.Saving.{HasKept, HoldsSave, IsKeptAtEnd}
use Rattle.kc_saving.proofs.Turned.{answered-all, kept-done, kept-undone, kept-unsaved, turned-done}
use Rattle.kc_saving.proofs.answer.answer_and_end.Goals as goal

pub returns-in-Err-clause-kept : goal.returns-in-Err-clause-kept
returns-in-Err-clause-kept g c = λ start first going none.
    let options : WatchOptions = c.args.made.now.watcher.options in
    let (events, told, (dialogue, answered, (saved, h))) = c.in-Err.ensures.turned start first going none in (
      events,
      told,
      subst (HasKept options c.args.saves.file.now c.args.saves.every (g.P.Folder.holds c.args.folder.now) (g.P.Folder.holds c.answer_turns.new.folder) start
          c.answer_turns.new.made.watcher (first ++ events)) (sym c.end_by_fault.ensures)
          (kept-unsaved options c.args.saves.file.now c.args.saves.every (g.P.Folder.holds c.args.folder.now) (g.P.Folder.holds c.answer_turns.new.folder)
          start c.answer_turns.new.made.watcher (first ++ events) saved c.in-Err.fault
          (answered-all (behind (reply options) start) (behind (reply_at_end options) start) (first ++ events) dialogue answered) h),
    )

pub returns-in-Ok-save_last-clause-kept : goal.returns-in-Ok-save_last-clause-kept
returns-in-Ok-save_last-clause-kept g c = λ start first going none.
    let options : WatchOptions = c.args.made.now.watcher.options in
    let before = g.P.Folder.holds c.args.folder.now in
    let (events, told, turned) = turned-done options c.args.saves.file.now c.args.saves.every before (g.P.Folder.holds c.answer_turns.new.folder) start first
    c.answer_turns.new.made.watcher (g.W.Wire.history c.args.wire.now) (g.W.Wire.history c.answer_turns.new.wire) c.in-Ok-Done.field-0 c.in-Ok-Done.field-0-is
    (c.in-Ok-Done.ensures.turned start first going none) in (
      events,
      told,
      kept-done options c.args.saves.file.now c.args.saves.every before (g.P.Folder.holds c.answer_turns.new.folder) (g.P.Folder.holds c.save_last.new.folder)
          start c.answer_turns.new.made.watcher (first ++ events) turned
          (λ fed saved ended h. subst (λ (o : WatchOptions). IsKeptAtEnd c.args.saves.file.now o.bad_lines before (g.P.Folder.holds c.save_last.new.folder) fed)
          c.in-Ok-Done.ensures.options (c.in-Ok-save_last.ensures.kept before fed saved ended
          (subst (λ (o : WatchOptions). HoldsSave c.args.saves.file.now o.bad_lines before (g.P.Folder.holds c.answer_turns.new.folder) fed saved)
          (sym c.in-Ok-Done.ensures.options) h))),
    )

pub returns-in-Err-save_last-clause-kept : goal.returns-in-Err-save_last-clause-kept
returns-in-Err-save_last-clause-kept g c = λ start first going none.
    let options : WatchOptions = c.args.made.now.watcher.options in
    let before = g.P.Folder.holds c.args.folder.now in
    let (events, told, turned) = turned-done options c.args.saves.file.now c.args.saves.every before (g.P.Folder.holds c.answer_turns.new.folder) start first
    c.answer_turns.new.made.watcher (g.W.Wire.history c.args.wire.now) (g.W.Wire.history c.answer_turns.new.wire) c.in-Ok-Done.field-0 c.in-Ok-Done.field-0-is
    (c.in-Ok-Done.ensures.turned start first going none) in (
      events,
      told,
      subst (HasKept options c.args.saves.file.now c.args.saves.every before (g.P.Folder.holds c.save_last.new.folder) start c.answer_turns.new.made.watcher
          (first ++ events)) (sym c.end_by_fault-in-Err-save_last.ensures)
          (kept-undone options c.args.saves.file.now c.args.saves.every before (g.P.Folder.holds c.answer_turns.new.folder)
          (g.P.Folder.holds c.save_last.new.folder) start c.answer_turns.new.made.watcher (first ++ events) c.in-Err-save_last.fault turned
          c.in-Err-save_last.ensures.stays),
    )
