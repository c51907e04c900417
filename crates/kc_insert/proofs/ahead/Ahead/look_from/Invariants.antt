-- Of the neighbours so far just `count` are higher than `w` or behind it on the level, and those behind it are listed, each once.
use Rattle.std.proofs.Common.{◌≡◌, ◌≤◌, ◌&&◌, ℕ, List, true, take}
use Rattle.std.specs.Prelude.{count_by}
use Rattle.kc_lists.specs.Lists.{member, Distinct}
use Rattle.kc_graph.specs.Lawful.{Ranked}
use Rattle.kc_view.specs.Answers.{Agrees, has_core}
use Rattle.kc_view.specs.Views.{GoesOn}
use Rattle.kc_insert.specs.Added.{search_with}
use Rattle.kc_insert.specs.Rising.{AsksQueued}
use Rattle.kc_insert.specs.Turns.{side_in, is_ahead, is_next}
use Rattle.kc_insert.proofs.ahead.Ahead.look_from.Given as goal

abbrev pub invariant-loop-x : goal.invariant-loop-x
invariant-loop-x g l =
    let v = g.V.View in
    record {
      goes_on : GoesOn (v.shown l.fn.view) (v.shown l.view);
      few : l.self.count ≤ l.x-index;
      asks : (queue : List ℕ) → AsksQueued l.search.update (v.shown l.fn.view).kept queue → AsksQueued l.search.update (v.shown l.view).kept queue;
      from : (y : ℕ) → member y l.self.next.items ≡ true → (member y (take l.x-index l.row) ≡ true) × (has_core (v.shown l.view).kept y ≡ true);
      once : Distinct l.self.next.items;
      count : (s : Ranked) → Agrees (v.shown l.view).kept s
          → l.self.count ≡ count_by (λ y. is_ahead (side_in (search_with l.search.update l.search.level s) l.w y)) (take l.x-index l.row);
      next : (s : Ranked) → Agrees (v.shown l.view).kept s → (y : ℕ)
          → member y l.self.next.items ≡ (member y (take l.x-index l.row) && is_next (side_in (search_with l.search.update l.search.level s) l.w y));
    }
