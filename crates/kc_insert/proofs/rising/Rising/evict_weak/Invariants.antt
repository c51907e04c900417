-- A settling is under way whose last vertex is `anchor`, which has left the queue and was read; the turn stays, and the shifts grow.
use Rattle.std.proofs.Common.{◌≡◌, ◌-◌, ℕ, true, length}
use Rattle.kc_lists.specs.Lists.{member}
use Rattle.kc_graph.specs.Lawful.{Ranked}
use Rattle.kc_view.specs.Answers.{Agrees, has_list}
use Rattle.kc_view.specs.Views.{GoesOn}
use Rattle.kc_insert.specs.Added.{search_with}
use Rattle.kc_insert.specs.Rising.{left, IsTidyRising}
use Rattle.kc_insert.specs.Searching.{Widened}
use Rattle.kc_insert.specs.Turns.{IsSettling}
use Rattle.kc_insert.proofs.rising.Rising.evict_weak.Given as goal

abbrev pub invariant-loop-search : goal.invariant-loop-search
invariant-loop-search g l =
    let v = g.V.View in
    record {
      goes_on : GoesOn (v.shown l.fn.view) (v.shown l.view);
      tidy : IsTidyRising l.search.update (v.shown l.view) l.self;
      anchor : member l.anchor (left l.self) ≡ true;
      read : has_list (v.shown l.view).kept l.anchor ≡ true;
      turn : l.self.turn ≡ l.fn.self.turn;
      settling : (s : Ranked) (root : ℕ) → Agrees (v.shown l.view).kept s → Widened (search_with l.search.update l.search.level s) root
          → IsSettling (search_with l.search.update l.search.level s) root l.fn.self l.w
          → IsSettling (search_with l.search.update l.search.level s) root l.self l.anchor;
    }

abbrev pub decreases-loop-search : goal.decreases-loop-search
decreases-loop-search g l = (g.V.View.shown l.fn.view).size - length l.self.shifts.items
