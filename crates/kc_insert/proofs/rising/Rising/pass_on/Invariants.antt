-- Each of `next` so far is queued and has one candidate more before it, and the queue is in order if it was.
use Rattle.std.proofs.Common.{◌≡◌, ℕ, true, take}
use Rattle.kc_lists.specs.Lists.{member}
use Rattle.kc_graph.specs.Lawful.{Ranked}
use Rattle.kc_graph.specs.declared.update.Update.{Update}
use Rattle.kc_cert.specs.Ranks.{rank_in, AscendsBy}
use Rattle.kc_view.specs.Answers.{Agrees}
use Rattle.kc_view.specs.Views.{GoesOn}
use Rattle.kc_insert.specs.Rising.{IsTidyRising}
use Rattle.kc_insert.specs.Turns.{PassedOn, StandsBehindLeft}
use Rattle.kc_insert.proofs.rising.Rising.pass_on.Given as goal

abbrev pub invariant-loop-x : goal.invariant-loop-x
invariant-loop-x g l =
    let v = g.V.View in
    record {
      goes_on : GoesOn (v.shown l.fn.view) (v.shown l.view);
      tidy : (update : Update) → IsTidyRising update (v.shown l.fn.view) l.fn.self → IsTidyRising update (v.shown l.view) l.self;
      passed : PassedOn (take l.x-index l.next) l.fn.self l.self;
      ascends : (s : Ranked) → Agrees (v.shown l.view).kept s
          → ((y : ℕ) → member y l.next ≡ true → StandsBehindLeft (rank_in s.order) l.fn.self l.next y)
          → AscendsBy (rank_in s.order) l.fn.self.queue.items → AscendsBy (rank_in s.order) l.self.queue.items;
    }
