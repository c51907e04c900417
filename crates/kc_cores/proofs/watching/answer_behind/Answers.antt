-- The run ends as the dialogue has, and what it tells is what the watcher tells then.
use Rattle.std.proofs.Common.{◌≡◌, ◌++◌, ℕ, Option, ap₂, option_map, subst}
use Rattle.kc_wire.specs.Events.{read_in}
use Rattle.kc_text.specs.declared.refusal.Refusal.{Refusal}
use Rattle.kc_stream.specs.Hearing.{heard_at_end, heard_so_far}
use Rattle.kc_watch.specs.declared.options.WatchOptions.{WatchOptions}
use Rattle.kc_cores.specs.Endings.{line_of}
use Rattle.kc_cores.specs.WatchEnded.{HasEndedSo, outcome}
use Rattle.kc_cores.proofs.Watched.{HasEndedSo-is}
use Rattle.kc_cores.proofs.watching.answer_behind.Goals as goal

pub returns : goal.returns
returns g c = λ start opened.
    let (events, happened, answered, so_far, at_end) = c.answer_opened-how.ensures.answered start opened in
    let same : c.answer_opened-how.new.replier.watcher.options ≡ c.args.made.now.watcher.options = c.answer_opened-how.ensures.settings in
    let both : Option Refusal → ℕ → Option Refusal × ℕ = (λ r n. (r, n)) in
    let file = option_map (λ t. t.now) c.args.file in
    let how = c.answer_opened-how.result in
    let all = start ++ read_in events in
    record {
      events = events;
      how = how;
      happened = happened;
      answered = answered;
      ended =
          subst (λ (n : ℕ). HasEndedSo file n how (outcome (heard_so_far c.args.made.now.watcher.options.bad_lines all))
          (outcome (heard_at_end c.args.made.now.watcher.options.bad_lines all)) c.end_so.result.status (line_of c.end_so.result))
          (c.lines.ensures start opened.fed)
          (subst (λ (o : WatchOptions). HasEndedSo file c.lines.result how (outcome (heard_so_far o.bad_lines all)) (outcome (heard_at_end o.bad_lines all))
          c.end_so.result.status (line_of c.end_so.result)) same
          (HasEndedSo-is file c.lines.result how (both c.refusal.result c.refused_batches.result)
          (outcome (heard_so_far c.answer_opened-how.new.replier.watcher.options.bad_lines all))
          (outcome (heard_at_end c.answer_opened-how.new.replier.watcher.options.bad_lines all)) c.end_so.result.status (line_of c.end_so.result)
          (λ e. ap₂ both (c.refusal.ensures.so_far all (so_far e)) (c.refused_batches.ensures.so_far all (so_far e)))
          (λ e. ap₂ both (c.refusal.ensures.at_end all (at_end e)) (c.refused_batches.ensures.at_end all (at_end e)))
          c.end_so.ensures));
      faults = c.answer_opened-how.ensures.cause;
    }
