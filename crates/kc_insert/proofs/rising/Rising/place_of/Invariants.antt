-- All queued before `low` stand before `x`, and none from `high` on does; each turn leaves about half of what lies between.
use Rattle.std.proofs.Common.{◌≡◌, ◌≤◌, ◌<◌, ◌-◌, ℕ, true, length}
use Rattle.kc_lists.specs.Lists.{member}
use Rattle.kc_graph.specs.Lawful.{Ranked}
use Rattle.kc_graph.specs.declared.update.Update.{Update}
use Rattle.kc_cert.specs.Ranks.{rank_in, AscendsBy}
use Rattle.kc_view.specs.Answers.{Agrees}
use Rattle.kc_view.specs.Views.{GoesOn}
use Rattle.kc_insert.specs.Rising.{left, IsTidyRising}
use Rattle.kc_insert.specs.Turns.{IsPlaceWithin}
use Rattle.kc_insert.proofs.rising.Rising.place_of.Given as goal

abbrev pub invariant-loop-low : goal.invariant-loop-low
invariant-loop-low g l =
    let v = g.V.View in
    record {
      goes_on : GoesOn (v.shown l.fn.view) (v.shown l.view);
      tidy : (update : Update) → IsTidyRising update (v.shown l.fn.view) l.self → IsTidyRising update (v.shown l.view) l.self;
      from : l.self.turn ≤ l.low;
      up : l.low ≤ l.high;
      within : l.high ≤ length l.self.queue.items;
      place : (s : Ranked) → Agrees (v.shown l.view).kept s → AscendsBy (rank_in s.order) l.self.queue.items
          → ((z : ℕ) → member z (left l.self) ≡ true → rank_in s.order z < rank_in s.order l.x)
          → IsPlaceWithin (rank_in s.order) l.self.queue.items l.x l.low l.high;
    }

abbrev pub decreases-loop-low : goal.decreases-loop-low
decreases-loop-low g l = l.high - l.low
