-- The stream was answered behind what stands in front of it, or there is no such text.
use Rattle.std.proofs.Common.{◌≡◌, ◌∙◌, List, Option, ℕ, inl, subst}
use Rattle.kc_watch.specs.declared.options.WatchOptions.{WatchOptions}
use Rattle.kc_wishes.specs.Requests.{start_of}
use Rattle.kc_wishes.specs.Wishes.{file_of}
use Rattle.kc_cores.specs.Endings.{line_of}
use Rattle.kc_cores.specs.WatchEnded.{StreamAnswered}
use Rattle.kc_cores.proofs.watching.watch.Goals as goal

pub answer_behind-requires : goal.answer_behind-requires
answer_behind-requires g c = let (front, stands, opened) = c.in-Ok.ensures.opened in (front, opened)

pub returns-in-Ok : goal.returns-in-Ok
returns-in-Ok g c =
    let (front, stands, opened) = c.in-Ok.ensures.opened in
    let start = start_of c.args.request.start in
    let same : c.open.new.watcher.options ≡ c.args.request.options = c.in-Ok.ensures.options ∙ c.new-watcher.ensures.options in
    record {
      ended = inl (
        front,
        stands,
        subst (λ (o : WatchOptions). StreamAnswered g.L.Wire o (file_of start) front c.answer_behind.result.status (line_of c.answer_behind.result)
            c.args.wire.now c.answer_behind.new.wire) same
            (subst (λ (f : Option (List ℕ)). StreamAnswered g.L.Wire c.open.new.watcher.options f front c.answer_behind.result.status
            (line_of c.answer_behind.result) c.args.wire.now c.answer_behind.new.wire) c.file.ensures (c.answer_behind.ensures front opened)),
        c.in-Ok.ensures.read,
        c.in-Ok.ensures.faultless,
      );
      untouched = c.in-Ok.ensures.untouched;
    }
