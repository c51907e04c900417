-- Nothing has happened at first. Each turn goes on with the dialogue so far, or ends it, and so does a state that was not saved.
use Rattle.std.proofs.Common.{◌++◌, ◌∙◌, [], append-nil, arith, refl, subst, sym}
use Rattle.kc_wire.specs.Events.{read_in}
use Rattle.kc_dialogue.specs.Openings.{behind}
use Rattle.kc_dialogue.specs.Turns.{IsGoing}
use Rattle.kc_dialogue.proofs.Cuts.{TellsMore-nothing}
use Rattle.kc_watch.specs.Text.{reply}
use Rattle.kc_watch.specs.Watching.{WasFed}
use Rattle.kc_saving.proofs.Keeping.{HoldsSave-begin}
use Rattle.kc_saving.proofs.Turned.{goes-end, goes-exhausted, goes-on, goes-saved, goes-unsaved}
use Rattle.kc_saving.proofs.answer.answer_turns.Goals as goal

pub turns-init : goal.turns-init
turns-init g c = record {
  goes = λ start first going none. record {
    events = [];
    told = TellsMore-nothing (g.W.Wire.history c.args.wire.now);
    going = subst (IsGoing (behind (reply c.args.made.now.watcher.options) start) (λ read. WasFed c.args.made.now.watcher (start ++ read)))
        (sym (append-nil first)) going;
    reads = refl;
    kept = HoldsSave-begin c.args.saves.file.now c.args.made.now.watcher.options.bad_lines (g.P.Folder.holds c.args.folder.now)
        (start ++ read_in (first ++ []));
  };
  options = refl;
  faultless = refl;
  kept = refl;
  room = c.requires.room;
}

pub save_if_due-requires : goal.save_if_due-requires
save_if_due-requires g c =
    let (start, first, going, none) = c.requires.going in
    let goes = c.turns.invariant.goes start first going none in
    (start ++ read_in (first ++ goes.events), goes.going.fed)

pub answer_next-requires-clause-fed : goal.answer_next-requires-clause-fed
answer_next-requires-clause-fed g c =
    let (start, first, going, none) = c.requires.going in
    let goes = c.turns.invariant.goes start first going none in
    (start ++ read_in (first ++ goes.events), goes.going.fed)

pub returns-in-Err-clause-turned : goal.returns-in-Err-clause-turned
returns-in-Err-clause-turned g c = λ start first going none.
    goes-unsaved c.args.made.now.watcher.options c.args.saves.file.now (g.P.Folder.holds c.args.folder.now) start first c.args.saves.every c.turns.made.watcher
    (g.W.Wire.history c.args.wire.now) (g.W.Wire.history c.turns.wire) (g.P.Folder.holds c.turns.folder) (g.P.Folder.holds c.save_if_due.new.folder)
    c.turns.saved c.turns.counter c.in-Err.fault (c.turns.invariant.goes start first going none) c.in-Err.ensures.stays

pub returns-in-Some-clause-turned : goal.returns-in-Some-clause-turned
returns-in-Some-clause-turned g c = λ start first going none.
    let holds = g.P.Folder.holds c.save_if_due.new.folder in
    let same = c.turns.invariant.options in
    goes-end c.args.made.now.watcher.options c.args.saves.file.now (g.P.Folder.holds c.args.folder.now) start first c.args.saves.every
    c.turns.made.watcher.options c.turns.made.watcher c.answer_next.new.replier.watcher (g.W.Wire.history c.args.wire.now) (g.W.Wire.history c.turns.wire)
    (g.W.Wire.history c.answer_next.new.wire) holds c.in-Ok.now c.turns.counter c.in-Some.end same
    (goes-saved c.args.made.now.watcher.options c.args.saves.file.now (g.P.Folder.holds c.args.folder.now) start first c.turns.made.watcher.options
    c.turns.made.watcher
    (g.W.Wire.history c.args.wire.now) (g.W.Wire.history c.turns.wire) (g.P.Folder.holds c.turns.folder) holds c.turns.saved c.in-Ok.now c.turns.counter same
    (c.turns.invariant.goes start first going none) (c.in-Ok.ensures.holds (g.P.Folder.holds c.args.folder.now)))
    c.in-Ok.ensures.recent (c.in-Some.ensures.turned start) c.in-Some.ensures.unread

pub turns-preserved : goal.turns-preserved
turns-preserved g c =
    let holds = g.P.Folder.holds c.save_if_due.new.folder in
    let same = c.turns.invariant.options in
    record {
      goes = λ start first going none.
          goes-on c.args.made.now.watcher.options c.args.saves.file.now (g.P.Folder.holds c.args.folder.now) start first
          c.turns.made.watcher.options c.turns.made.watcher c.answer_next.new.replier.watcher (g.W.Wire.history c.args.wire.now) (g.W.Wire.history c.turns.wire)
          (g.W.Wire.history c.answer_next.new.wire) holds c.in-Ok.now c.turns.counter same
          (goes-saved c.args.made.now.watcher.options c.args.saves.file.now (g.P.Folder.holds c.args.folder.now) start first c.turns.made.watcher.options
          c.turns.made.watcher (g.W.Wire.history c.args.wire.now) (g.W.Wire.history c.turns.wire) (g.P.Folder.holds c.turns.folder) holds
          c.turns.saved c.in-Ok.now
          c.turns.counter same (c.turns.invariant.goes start first going none) (c.in-Ok.ensures.holds (g.P.Folder.holds c.args.folder.now)))
          (c.in-None.ensures.turned start);
      options = c.in-None.ensures.settings ∙ same;
      faultless = c.in-None.ensures.cause ∙ c.turns.invariant.faultless;
      kept = c.in-Ok.ensures.cause ∙ c.turns.invariant.kept;
      room = omega (arith, c.answer_next.auto.room, c.turns.invariant.room);
    }

pub returns-clause-turned : goal.returns-clause-turned
returns-clause-turned g c = λ start first going none.
    goes-exhausted c.args.made.now.watcher.options c.args.saves.file.now (g.P.Folder.holds c.args.folder.now) start first c.args.saves.every
    c.turns.made.watcher
    (g.W.Wire.history c.args.wire.now) (g.W.Wire.history c.turns.wire) (g.P.Folder.holds c.turns.folder) c.turns.saved c.turns.counter none
    (omega arith) (c.turns.invariant.goes start first going none)
