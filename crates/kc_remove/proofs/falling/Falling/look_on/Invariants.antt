-- What was counted so far is the support that is found on the front of the list, up to the bound.
use Rattle.std.proofs.Common.{◌≡◌, ◌-◌, ℕ, true, length, take, get_or}
use Rattle.kc_lists.specs.Lists.{member}
use Rattle.kc_graph.specs.Lawful.{Ranked}
use Rattle.kc_view.specs.Answers.{Agrees, has_list, list_of}
use Rattle.kc_view.specs.Views.{GoesOn, KeepsLists}
use Rattle.kc_remove.specs.Falling.{IsTidyFalling}
use Rattle.kc_remove.specs.Visits.{IsBound, IsSupport}
use Rattle.kc_remove.proofs.falling.Falling.look_on.Given as goal

abbrev pub invariant-loop-support : goal.invariant-loop-support
invariant-loop-support g l =
    let v = g.V.View in
    let y = l.y.vertex in
    record {
      goes_on : GoesOn (v.shown l.fn.view) (v.shown l.view);
      read : has_list (v.shown l.view).kept y ≡ true;
      row : list_of (v.shown l.view).kept y ≡ list_of (v.shown l.fn.view).kept y;
      degree : l.degree ≡ length (list_of (v.shown l.fn.view).kept y);
      tidy : IsTidyFalling l.search.update (v.shown l.view) l.self;
      lists : KeepsLists (v.shown l.view);
      looked : IsBound (list_of (v.shown l.fn.view).kept y) l.looked l.bound;
      told : (s : Ranked) → Agrees (v.shown l.view).kept s
          → ((x : ℕ) → member x l.self.seen.weak.items ≡ true → get_or s.core x 0 ≡ l.search.level)
          → IsSupport l.search.update l.search.level s (take l.y.turns l.self.seen.weak.items) y l.fn.count
          → IsSupport l.search.update l.search.level s (take l.y.turns l.self.seen.weak.items) y
          (record { support = l.support; looked = l.looked; bound = l.bound });
    }

abbrev pub decreases-loop-support : goal.decreases-loop-support
decreases-loop-support g l = l.degree - l.looked
