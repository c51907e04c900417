-- A view of a graph at rest: its lists, and what a step on it leaves.
use Rattle.std.proofs.Common.{◌≡◌, ◌<◌, ◌+◌, ℕ, suc, zero, Bool, true, false, List, [], ◌∷◌, length, get_or, set, ltb, refl, sym, ◌∙◌, ap, subst}
use Rattle.std.proofs.Common.{◌^◌, arith, true≢false}
use Rattle.std.specs.List.Sorted.{IsStrictlyIncreasing}
use Rattle.std.proofs.lemmas.Bool.{false_from_ne_true}
use Rattle.std.proofs.lemmas.List.Elements.{All-weaker}
use Rattle.kc_lists.specs.Lists.{member, place_of}
use Rattle.kc_lists.proofs.Counting.{member-get_or}
use Rattle.kc_graph.specs.SimpleGraph.{SimpleGraph}
use Rattle.kc_graph.specs.Lawful.{Ranked}
use Rattle.kc_graph.specs.Neighbours.{AreNeighbours, neighbours_of}
use Rattle.kc_graph.specs.declared.used.UsedEdges.{UsedEdges}
use Rattle.kc_graph.specs.declared.used.UsedPlace.{UsedPlace}
use Rattle.kc_graph.specs.declared.used.UsedOrder.{UsedOrder}
use Rattle.kc_graph.proofs.Law.{adjacent-self}
use Rattle.kc_graph.proofs.NeighbourLists.{Rises, neighbours_rise, neighbours_within}
use Rattle.kc_view.specs.Answers.{Answers, Agrees, has_list, has_core, list_of, core_of, with_list, with_place, with_order}
use Rattle.kc_view.specs.Lists.{IsListOf, AreLists}
use Rattle.kc_view.specs.Plain.{Resting, KeepsAnswers, shown_at_rest}
use Rattle.kc_view.specs.Views.{Further, GoesOn}
use Rattle.kc_view.proofs.Keeping.{core-true}
use Rattle.kc_view.proofs.Marking.{Further-list, Further-place, Further-order, keeps_list, keeps_place, keeps_order, mark_tells}
use Rattle.kc_view.proofs.Marking.{few_neighbours, same_neighbours, TellsNewList, TellsNewCore, tells_new_list, tells_new_core}

-- a rising list ascends from place to place
Rises-increasing : (xs : List ℕ) → Rises xs → IsStrictlyIncreasing xs
Rises-increasing [] h k l = absurd (omega arith)
Rises-increasing (x ∷ xs) h zero l = omega (arith, h.0 (get_or xs 0 0) (member-get_or xs 0 0 (omega arith)))
Rises-increasing (x ∷ xs) h (suc k) l =
    let e : suc (k + 1) ≡ suc k + 1 = omega arith in
    let r : get_or xs k 0 < get_or xs (k + 1) 0 = Rises-increasing xs h.1 k (omega arith) in
    subst (λ (n : ℕ). get_or xs k 0 < get_or (x ∷ xs) n 0) e r

-- the neighbours of a vertex are a list as a view tells it
pub neighbours-list : (g : SimpleGraph) (v : ℕ) → IsListOf g.size v (neighbours_of g v)
neighbours-list g v = record {
  ascends = Rises-increasing (neighbours_of g v) (neighbours_rise g v);
  within = λ y m. (neighbours_within g v y m).0;
  others = false_from_ne_true (member v (neighbours_of g v)) (λ m. true≢false (sym (neighbours_within g v v m).1 ∙ adjacent-self g v));
}

-- and so are all lists that are true of a state
pub lists-true : (a : Answers) (s : Ranked) → Agrees a s → AreLists s.graph.size a.edges
unfolding AreLists
lists-true a s g =
    All-weaker (λ e. (e.vertex < s.graph.size) × (e.neighbours ≡ neighbours_of s.graph e.vertex)) (λ e. IsListOf s.graph.size e.vertex e.neighbours)
    (λ e k. subst (IsListOf s.graph.size e.vertex) (sym k.1) (neighbours-list s.graph e.vertex)) a.edges g.edges

-- a view of the state that keeps these answers, as contracts see it
abbrev pub resting : Ranked → Answers → ℕ → Resting
resting s a handed = record { state = s; kept = a; handed = handed }

-- What a call leaves that kept the answers `new` where `old` were kept: they are true and marked, and the view goes on.
pub record Rests (s : Ranked) (old new : Answers) (handed : ℕ) (listed placed : List Bool) : Type 0 where
  pub keeps : KeepsAnswers s new listed placed
  pub lists : AreLists s.graph.size new.edges
  pub goes_on : GoesOn (shown_at_rest (resting s old handed)) (shown_at_rest (resting s new handed))

-- what was kept and true is kept, with answers more that are true
rests-on : (s : Ranked) (old new : Answers) (handed : ℕ) (listed placed : List Bool) → Further old new → KeepsAnswers s new listed placed
    → Rests s old new handed listed placed
rests-on s old new handed listed placed further keeps =
    let lists : AreLists s.graph.size new.edges = lists-true new s keeps.agrees in record {
      keeps = keeps;
      lists = lists;
      goes_on = record {
        lasts = record { same_size = refl; misses = omega arith; still_missed = λ x h. h; still_given = λ x h. h };
        handed = refl;
        further = further;
        lists = λ _. lists;
      };
    }

-- What the first call for the list of a vertex leaves.
pub record FirstList (s : Ranked) (a : Answers) (handed : ℕ) (listed placed : List Bool) (e : UsedEdges) : Type 0 where
  pub rests : Rests s a (with_list a e) handed (set listed e.vertex true) placed
  pub tells : TellsNewList a e

-- What the first call for the core number of a vertex leaves.
pub record FirstCore (s : Ranked) (a : Answers) (handed : ℕ) (listed placed : List Bool) (p : UsedPlace) : Type 0 where
  pub rests : Rests s a (with_place a p) handed listed (set placed p.vertex true)
  pub tells : TellsNewCore a p

-- What the neighbours in a graph are, they are in the same graph.
neighbours_there : {graph now : SimpleGraph} (w : ℕ) (ws : List ℕ) → graph ≡ now → AreNeighbours graph w ws → AreNeighbours now w ws
neighbours_there w ws same near = subst (λ (g : SimpleGraph). AreNeighbours g w ws) same near

-- What a view keeps is true of the state and marked, and contracts see the view as `seen`.
module _ {s : Ranked} {a : Answers} {handed : ℕ} {listed placed : List Bool} {seen : Resting} (keeps : KeepsAnswers s a listed placed)
    (is : resting s a handed ≡ seen) where
  -- a vertex that contracts see is one of the state
  seen_below : (w : ℕ) → w < seen.state.graph.size → w < s.graph.size
  seen_below w here = omega (arith, ap (λ (r : Resting). r.state.graph.size) is, here)

  -- a vertex whose core number was told is one of the state
  placed_below : (w : ℕ) → has_core seen.kept w ≡ true → w < s.graph.size
  placed_below w told = (core-true a s w keeps.agrees (ap (λ (r : Resting). has_core r.kept w) is ∙ told)).0

  -- a vertex has fewer neighbours than a `u32` counts
  pub few_there : {graph : SimpleGraph} (w : ℕ) (ws : List ℕ) → graph ≡ s.graph → AreNeighbours graph w ws → length ws < 2 ^ 32
  few_there w ws same near = omega (arith, few_neighbours s w ws (neighbours_there w ws same near), keeps.few)

  -- the mark of a vertex says whether its list was told
  list_mark : (w : ℕ) (b : Bool) → w < seen.state.graph.size → b ≡ get_or listed w b → has_list a w ≡ b
  list_mark w b here mark = sym (mark_tells listed (has_list a) w b (omega (arith, keeps.one_each, seen_below w here)) keeps.lists mark)

  -- the mark of a vertex says whether its core number was told
  core_mark : (w : ℕ) (b : Bool) → w < seen.state.graph.size → b ≡ get_or placed w b → has_core a w ≡ b
  core_mark w b here mark = sym (mark_tells placed (has_core a) w b (omega (arith, keeps.one_each_too, seen_below w here)) keeps.places mark)

  -- a vertex that has no mark is told its list, which is kept
  pub first_list : {graph : SimpleGraph} (e : UsedEdges) (b : Bool) → e.vertex < seen.state.graph.size → graph ≡ s.graph
      → AreNeighbours graph e.vertex e.neighbours → b ≡ get_or listed e.vertex b → b ≡ false → FirstList s a handed listed placed e
  first_list e b here same near mark off = record {
    rests = rests-on s a (with_list a e) handed (set listed e.vertex true) placed (Further-list a e)
        (keeps_list s a listed placed e keeps (seen_below e.vertex here) (neighbours_there e.vertex e.neighbours same near));
    tells = tells_new_list a e (list_mark e.vertex b here mark ∙ off);
  }

  -- a vertex that has no mark is told its core number, which is kept
  pub first_core : (p : UsedPlace) (b : Bool) → p.vertex < seen.state.graph.size → p.core ≡ get_or s.core p.vertex 0
      → b ≡ get_or placed p.vertex b → b ≡ false → FirstCore s a handed listed placed p
  first_core p b here core mark off = record {
    rests = rests-on s a (with_place a p) handed listed (set placed p.vertex true) (Further-place a p)
        (keeps_place s a listed placed p keeps (seen_below p.vertex here) core);
    tells = tells_new_core a p (core_mark p.vertex b here mark ∙ off);
  }

  -- the order of two vertices whose core numbers were told is kept
  pub next_order : (o : UsedOrder) → has_core seen.kept o.x ≡ true → has_core seen.kept o.y ≡ true
      → o.before ≡ ltb (place_of o.x s.order) (place_of o.y s.order) → Rests s a (with_order a o) handed listed placed
  next_order o first second before =
      rests-on s a (with_order a o) handed listed placed (Further-order a o)
      (keeps_order s a listed placed o keeps (placed_below o.x first) (placed_below o.y second) before)

  -- the neighbours of a vertex that has a mark are the list that was told
  pub list_again : {graph : SimpleGraph} (w : ℕ) (b : Bool) (ws : List ℕ) → w < seen.state.graph.size → graph ≡ s.graph → AreNeighbours graph w ws
      → b ≡ get_or listed w b → b ≡ true → ws ≡ list_of a w
  list_again w b ws here same near mark on = same_neighbours s a w ws keeps.agrees (neighbours_there w ws same near) (list_mark w b here mark ∙ on)

  -- the core number of a vertex that has a mark is the one that was told
  pub core_again : (w : ℕ) (b : Bool) (k : ℕ) → w < seen.state.graph.size → k ≡ get_or s.core w 0 → b ≡ get_or placed w b → b ≡ true → k ≡ core_of a w
  core_again w b k here core mark on = core ∙ sym (core-true a s w keeps.agrees (core_mark w b here mark ∙ on)).1

  -- the neighbours of a vertex whose list was told, as contracts see it
  pub list_told : {graph : SimpleGraph} (w : ℕ) (ws : List ℕ) → graph ≡ s.graph → AreNeighbours graph w ws → has_list seen.kept w ≡ true
      → ws ≡ list_of seen.kept w
  list_told w ws same near told =
      same_neighbours s a w ws keeps.agrees (neighbours_there w ws same near) (ap (λ (r : Resting). has_list r.kept w) is ∙ told)
      ∙ ap (λ (r : Resting). list_of r.kept w) is
