-- The turn has come to the first `i` neighbours of `x`, which keeps its place among the fallen while the list grows behind it.
use Rattle.std.proofs.Common.{◌≡◌, ◌<◌, ℕ, true, take, length, get_or}
use Rattle.kc_graph.specs.Lawful.{Ranked}
use Rattle.kc_view.specs.Answers.{Agrees, has_list, list_of}
use Rattle.kc_view.specs.Views.{GoesOn}
use Rattle.kc_remove.specs.Cascade.{nobody}
use Rattle.kc_remove.specs.Removed.{has_come}
use Rattle.kc_remove.specs.Falling.{is_visited, IsTidyFalling, FallsIn}
use Rattle.kc_remove.proofs.falling.Falling.come_to_each.Given as goal

abbrev pub invariant-loop-i : goal.invariant-loop-i
invariant-loop-i g l =
    let v = g.V.View in
    record {
      goes_on : GoesOn (v.shown l.fn.view) (v.shown l.view);
      read : has_list (v.shown l.view).kept l.turn.vertex ≡ true;
      row : list_of (v.shown l.view).kept l.turn.vertex ≡ list_of (v.shown l.fn.view).kept l.turn.vertex;
      tidy : IsTidyFalling l.search.update (v.shown l.view) l.self;
      still : (z : ℕ) → is_visited l.fn.self z ≡ true → is_visited l.self z ≡ true;
      longer : l.turn.place < length l.self.seen.weak.items;
      at : get_or l.self.seen.weak.items l.turn.place 0 ≡ l.turn.vertex;
      falls : (s : Ranked) → Agrees (v.shown l.view).kept s → FallsIn l.search.update l.search.level s l.fn.self l.turn.place nobody
          → FallsIn l.search.update l.search.level s l.self l.turn.place
          (has_come l.search.update s l.turn.vertex (take l.i (list_of (v.shown l.fn.view).kept l.turn.vertex)));
    }
