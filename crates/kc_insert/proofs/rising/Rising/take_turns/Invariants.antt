-- The search stands between two turns if it did at first, and is tidy for every view; turns are no more than vertices.
use Rattle.std.proofs.Common.{◌<◌, ◌-◌, ℕ}
use Rattle.kc_graph.specs.Lawful.{Ranked}
use Rattle.kc_view.specs.Answers.{Agrees}
use Rattle.kc_view.specs.Views.{GoesOn}
use Rattle.kc_insert.specs.Added.{search_with}
use Rattle.kc_insert.specs.Rising.{IsTidyRising}
use Rattle.kc_insert.specs.Searching.{Widened}
use Rattle.kc_insert.specs.Turns.{IsBetweenTurns}
use Rattle.kc_insert.proofs.rising.Rising.take_turns.Given as goal

abbrev pub invariant-loop-self : goal.invariant-loop-self
invariant-loop-self g l =
    let v = g.V.View in
    record {
      goes_on : GoesOn (v.shown l.fn.view) (v.shown l.view);
      tidy : IsTidyRising l.search.update (v.shown l.view) l.self;
      turns : (s : Ranked) (root : ℕ) → l.search.update.v < s.graph.size → Agrees (v.shown l.view).kept s
          → Widened (search_with l.search.update l.search.level s) root
          → IsBetweenTurns (search_with l.search.update l.search.level s) root l.fn.self
          → IsBetweenTurns (search_with l.search.update l.search.level s) root l.self;
    }

abbrev pub decreases-loop-self : goal.decreases-loop-self
decreases-loop-self g l = (g.V.View.shown l.fn.view).size - l.self.turn
