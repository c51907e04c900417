-- The stream was answered behind what stands in front of it, with its states saved, or there is no such text.
use Rattle.std.proofs.Common.{◌≡◌, ◌∙◌, List, Option, ℕ, inl, inr, refl, subst}
use Rattle.kc_watch.specs.declared.options.WatchOptions.{WatchOptions}
use Rattle.kc_wishes.specs.Requests.{plan_of, start_of}
use Rattle.kc_wishes.specs.Wishes.{file_of}
use Rattle.kc_cores.specs.Endings.{line_of}
use Rattle.kc_cores.specs.WatchSaved.{StreamSaved}
use Rattle.kc_cores.proofs.watch_saving.watch_saving.Goals as goal

pub save_behind-requires : goal.save_behind-requires
save_behind-requires g c = let (front, stands, opened) = c.in-Ok.ensures.opened in (front, opened)

pub returns-in-Ok : goal.returns-in-Ok
returns-in-Ok g c =
    let (front, stands, opened) = c.in-Ok.ensures.opened in
    let start = start_of c.args.task.request.start in
    let same : c.open.new.watcher.options ≡ c.args.task.request.options = c.in-Ok.ensures.options ∙ c.new-watcher.ensures.options in
    record {
      ended = inl (
        front,
        stands,
        subst (λ (o : WatchOptions). StreamSaved g.L.Wire g.P.Folder.holds g.P.Folder.failed o (plan_of c.args.plan) (file_of start) front
            c.save_behind.result.status (line_of c.save_behind.result) c.args.wire.now c.save_behind.new.wire c.args.folder.now c.save_behind.new.folder) same
            (subst (λ (f : Option (List ℕ)). StreamSaved g.L.Wire g.P.Folder.holds g.P.Folder.failed c.open.new.watcher.options (plan_of c.args.plan) f
            front c.save_behind.result.status (line_of c.save_behind.result) c.args.wire.now c.save_behind.new.wire c.args.folder.now
            c.save_behind.new.folder) c.file.ensures (c.save_behind.ensures front opened)),
        c.in-Ok.ensures.read,
        c.in-Ok.ensures.faultless,
      );
      untouched = c.in-Ok.ensures.untouched;
    }
