-- The first `place` of the fallen have had their turns, the list is at least as long, and who was visited stays so.
use Rattle.std.proofs.Common.{◌≡◌, ◌≤◌, ◌-◌, ℕ, true, length}
use Rattle.kc_graph.specs.Lawful.{Ranked}
use Rattle.kc_view.specs.Answers.{Agrees}
use Rattle.kc_view.specs.Views.{GoesOn}
use Rattle.kc_remove.specs.Cascade.{nobody}
use Rattle.kc_remove.specs.Falling.{is_visited, IsTidyFalling, FallsIn}
use Rattle.kc_remove.proofs.falling.Falling.take_turns.Given as goal

abbrev pub invariant-loop-place : goal.invariant-loop-place
invariant-loop-place g l =
    let v = g.V.View in
    record {
      goes_on : GoesOn (v.shown l.fn.view) (v.shown l.view);
      tidy : IsTidyFalling l.search.update (v.shown l.view) l.self;
      still : (z : ℕ) → is_visited l.fn.self z ≡ true → is_visited l.self z ≡ true;
      place_in : l.place ≤ length l.self.seen.weak.items;
      falls : (s : Ranked) → Agrees (v.shown l.view).kept s → FallsIn l.search.update l.search.level s l.fn.self 0 nobody
          → FallsIn l.search.update l.search.level s l.self l.place nobody;
    }

abbrev pub decreases-loop-place : goal.decreases-loop-place
decreases-loop-place g l = (g.V.View.shown l.fn.view).size - l.place
