-- The run ends as the dialogue with saves has, and what it tells is what the watcher tells then.
use Rattle.std.proofs.Common.{◌≡◌, ◌++◌, ℕ, List, Option, ap₂, option_map, subst}
use Rattle.kc_wire.specs.Events.{read_in}
use Rattle.kc_text.specs.declared.refusal.Refusal.{Refusal}
use Rattle.kc_stream.specs.Hearing.{heard_at_end, heard_so_far}
use Rattle.kc_watch.specs.declared.options.WatchOptions.{WatchOptions}
use Rattle.kc_saving.specs.Saving.{HasKeptAt}
use Rattle.kc_cores.specs.Endings.{line_of}
use Rattle.kc_cores.specs.WatchEnded.{outcome}
use Rattle.kc_cores.specs.WatchSaved.{HasEndedSaving}
use Rattle.kc_cores.proofs.WatchedSaving.{HasEndedSaving-is}
use Rattle.kc_cores.proofs.watch_saving.save_behind.Goals as goal

pub returns : goal.returns
returns g c = λ start opened.
    let (events, happened, (kept, so_far, at_end)) = c.answer_and_save-how.ensures.kept start opened in
    let same : c.answer_and_save-how.new.made.watcher.options ≡ c.args.made.now.watcher.options = c.answer_and_save-how.ensures.options in
    let both : Option Refusal → ℕ → Option Refusal × ℕ = (λ r n. (r, n)) in
    let file = option_map (λ t. t.now) c.args.stream.file in
    let name = c.args.stream.plan.file.now in
    let how = c.answer_and_save-how.result in
    let all = start ++ read_in events in
    let holds = g.P.Folder.holds in
    record {
      events = events;
      how = how;
      happened = happened;
      kept =
          subst (λ (n : List ℕ). HasKeptAt c.args.made.now.watcher.options n c.args.stream.plan.every (holds c.args.folder.now)
          (holds c.answer_and_save-how.new.folder) start events how) c.saves_of-saves.ensures.file
          (subst (λ (e : Option ℕ). HasKeptAt c.args.made.now.watcher.options c.saves_of-saves.result.file.now e (holds c.args.folder.now)
          (holds c.answer_and_save-how.new.folder) start events how) c.saves_of-saves.ensures.every kept);
      ended =
          subst (λ (n : ℕ). HasEndedSaving file n name how (outcome (heard_so_far c.args.made.now.watcher.options.bad_lines all))
          (outcome (heard_at_end c.args.made.now.watcher.options.bad_lines all)) c.end_saving.result.status (line_of c.end_saving.result))
          (c.lines.ensures start opened.fed)
          (subst (λ (o : WatchOptions). HasEndedSaving file c.lines.result name how (outcome (heard_so_far o.bad_lines all))
          (outcome (heard_at_end o.bad_lines all)) c.end_saving.result.status (line_of c.end_saving.result)) same
          (HasEndedSaving-is file c.lines.result name how (both c.refusal.result c.refused_batches.result)
          (outcome (heard_so_far c.answer_and_save-how.new.made.watcher.options.bad_lines all))
          (outcome (heard_at_end c.answer_and_save-how.new.made.watcher.options.bad_lines all)) c.end_saving.result.status (line_of c.end_saving.result)
          (λ e. ap₂ both (c.refusal.ensures.so_far all (so_far e)) (c.refused_batches.ensures.so_far all (so_far e)))
          (λ e. ap₂ both (c.refusal.ensures.at_end all (at_end e)) (c.refused_batches.ensures.at_end all (at_end e)))
          c.end_saving.ensures));
      faults = c.answer_and_save-how.ensures.faults;
      folder = c.answer_and_save-how.ensures.cause;
    }
