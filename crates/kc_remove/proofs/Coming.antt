-- What a step knows of the vertex to which it comes: its core number, if the view told it, its visit, if it has one, and its edge.
use Rattle.std.proofs.Common.{◌≡◌, ◌≢◌, ◌<◌, ◌+◌, ℕ, Bool, true, false, not, ◌&&◌, Option, Some, List, [], ◌∷◌, ◌++◌, length, get_or, ltb, sym, ◌∙◌, ap, arith}
use Rattle.std.specs.Prelude.{is_some}
use Rattle.kc_lists.specs.Lists.{member}
use Rattle.kc_marks.specs.Maps.{value_of}
use Rattle.kc_graph.specs.Edges.{without_edge}
use Rattle.kc_graph.specs.Lawful.{Ranked}
use Rattle.kc_graph.specs.SimpleGraph.{adjacent}
use Rattle.kc_graph.specs.declared.update.Update.{Update}
use Rattle.kc_view.specs.Answers.{Answers, Agrees, has_list, list_of, core_of}
use Rattle.kc_view.specs.Views.{Shown, TellsCore}
use Rattle.kc_view.proofs.Keeping.{core-true}
use Rattle.kc_remove.specs.Cascade.{taken}
use Rattle.kc_remove.specs.Falling.{has_looked, IsTidyFalling}
use Rattle.kc_remove.specs.Removed.{has_come}
use Rattle.kc_graph.specs.Plans.{joins}
use Rattle.kc_remove.specs.Visits.{fallen_in, count_in}
use Rattle.kc_remove.specs.declared.falling.Falling.{Falling}
use Rattle.kc_remove.specs.declared.falling.Visit.{Visit}
use Rattle.kc_remove.proofs.Falls.{taken-yes}
use Rattle.kc_remove.proofs.Stepping.{come-now, come-other, edge-left, listed-adjacent}
use Rattle.kc_remove.proofs.Tidy.{fallen-out, out-fallen}

-- a core number that was told is that of each state that agrees
pub told-core : (old new : Answers) (s : Ranked) (y core : ℕ) → Agrees new s → TellsCore old new y → core ≡ core_of new y → core ≡ get_or s.core y 0
told-core old new s y core agrees tells is = is ∙ (core-true new s y agrees tells.told).1

-- a vertex that has not fallen and does not pass the test has not looked
not_looked : (b f l : Bool) → b ≡ (not f && l) → b ≡ false → f ≡ false → l ≡ false
not_looked b f l e h n = grind arith

-- a vertex that passes the test has not fallen
not_fallen : (b f l : Bool) → b ≡ (not f && l) → b ≡ true → f ≡ false
not_fallen b f l e h = grind arith

-- and it has looked
had_looked : (b f l : Bool) → b ≡ (not f && l) → b ≡ true → l ≡ true
had_looked b f l e h = grind arith

-- a visited vertex of which the test says that it has looked at `x` has not fallen, and it has looked there
pub visited-looked : (update : Update) (shown : Shown) (f : Falling) (x y : ℕ) (v : Visit) (b : Bool) → IsTidyFalling update shown f
    → value_of f.seen.marks y ≡ Some v → b ≡ (not (is_some v.fallen) && ltb x v.count.bound) → b ≡ true
    → (member y f.seen.weak.items ≡ false) × (ltb x v.count.bound ≡ true)
visited-looked update shown f x y v b tidy kept test passes = (
  fallen-out update shown f tidy y (ap fallen_in kept ∙ not_fallen b (is_some v.fallen) (ltb x v.count.bound) test passes),
  had_looked b (is_some v.fallen) (ltb x v.count.bound) test passes,
)

-- one of which the test does not say so has not looked at `x`, if it has not fallen
pub not-looked : (update : Update) (shown : Shown) (f : Falling) (x y : ℕ) (v : Visit) (b : Bool) → IsTidyFalling update shown f
    → value_of f.seen.marks y ≡ Some v → b ≡ (not (is_some v.fallen) && ltb x v.count.bound) → b ≡ false → member y f.seen.weak.items ≡ false
    → has_looked f y x ≡ false
not-looked update shown f x y v b tidy kept test fails out =
    ap (λ (o : Option Visit). ltb x (count_in o).bound) kept
    ∙ not_looked b (is_some v.fallen) (ltb x v.count.bound) test fails (sym (ap fallen_in kept) ∙ out-fallen update shown f tidy y out)

-- where the turn of `x`, which stands at the place `turn`, has come to `row` and comes to its neighbour `y` now
pub record Comes (update : Update) (s : Ranked) (turn x y : ℕ) (row fall : List ℕ) : Type 0 where
  pub left : adjacent (without_edge s.graph update.u update.v) x y ≡ true
  pub gone : turn + 1 ≡ taken (has_come update s x (row ++ y ∷ [])) turn y
  pub others : (z : ℕ) → z ≢ y → has_come update s x (row ++ y ∷ []) z ≡ has_come update s x row z
  pub joined : has_come update s x (row ++ y ∷ []) y ≡ true
      → (turn < length fall) × (adjacent (without_edge s.graph update.u update.v) (get_or fall turn 0) y ≡ true)

-- that is so of each neighbour that a list tells, if it is not joined by the edge that goes
pub neighbour-comes : (update : Update) (a : Answers) (s : Ranked) (turn x y : ℕ) (row fall : List ℕ) → Agrees a s → has_list a x ≡ true
    → member y (list_of a x) ≡ true → joins update x y ≡ false → turn < length fall → get_or fall turn 0 ≡ x
    → Comes update s turn x y row fall
neighbour-comes update a s turn x y row fall agrees read m stays l at =
    let left : adjacent (without_edge s.graph update.u update.v) x y ≡ true =
    edge-left update s x y stays (listed-adjacent a s x y agrees read m) in
    record {
      left = left;
      gone = sym (taken-yes (has_come update s x (row ++ y ∷ [])) turn y (come-now update s x y row left));
      others = λ z ne. come-other update s x y z row ne;
      joined = λ _. (l, ap (λ n. adjacent (without_edge s.graph update.u update.v) n y) at ∙ left);
    }
