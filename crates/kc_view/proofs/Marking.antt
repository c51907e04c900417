-- The marks of a view of a graph at rest: what is asked first is kept and marked, and all marks go when the answers are handed out.
use Rattle.std.proofs.Common.{◌≡◌, ◌≤◌, ◌<◌, ℕ, Bool, true, false, cond, ◌||◌, List, [], ◌∷◌, ◌++◌, length, get_or, set, ltb}
use Rattle.std.proofs.Common.{refl, sym, ◌∙◌, ap, inl, inr, arith, eqb, eq-eqb, ne_eqb, length-set}
use Rattle.std.specs.Prelude.{Option, Some, None, is_some}
use Rattle.std.specs.Option.{unwrap_or}
use Rattle.std.proofs.Math.Bool.{or-false}
use Rattle.std.proofs.lemmas.Bool.{cases_eq, false≢true, or_right}
use Rattle.std.proofs.lemmas.List.{get_or-set_same, get_or-set_other, get_or_read, append-nil}
use Rattle.std.proofs.lemmas.List.Elements.{All-push}
use Rattle.kc_lists.proofs.Members.{below_bound}
use Rattle.kc_graph.specs.Lawful.{Ranked}
use Rattle.kc_graph.specs.Neighbours.{AreNeighbours, neighbours_of}
use Rattle.kc_graph.specs.declared.used.UsedEdges.{UsedEdges}
use Rattle.kc_graph.specs.declared.used.UsedPlace.{UsedPlace}
use Rattle.kc_graph.specs.declared.used.UsedOrder.{UsedOrder}
use Rattle.kc_lists.specs.Lists.{place_of}
use Rattle.kc_graph.proofs.PeelingLemmas.{neighbours-distinct}
use Rattle.kc_graph.proofs.Law.{adjacent-self}
use Rattle.kc_view.specs.Answers.{Answers, Agrees, list_in, core_in, has_list, has_core, list_of, core_of, with_list, with_place, with_order}
use Rattle.kc_view.specs.Lists.{IsListOf}
use Rattle.kc_view.specs.Views.{Further, TellsList, TellsCore}
use Rattle.kc_view.specs.Plain.{KeepsAnswers}
use Rattle.kc_graph.proofs.NeighbourLists.{neighbours_are}
use Rattle.kc_view.proofs.Keeping.{list-true}
use Rattle.kc_view.proofs.Lookups.{list_answers, core_answers, found-push, found-new, found-more}

-- one list more where none was found: it is found for its vertex, and none for another
pub list_in-push : (w : ℕ) (xs : List UsedEdges) (e : UsedEdges) → is_some (list_in w xs) ≡ false
    → list_in w (xs ++ e ∷ []) ≡ cond (eqb w e.vertex) (Some e.neighbours) None
list_in-push = found-push list_answers

-- one core number more where none was found: it is found for its vertex, and none for another
pub core_in-push : (w : ℕ) (xs : List UsedPlace) (p : UsedPlace) → is_some (core_in w xs) ≡ false
    → core_in w (xs ++ p ∷ []) ≡ cond (eqb w p.vertex) (Some p.core) None
core_in-push = found-push core_answers

-- answers with a list more
pub Further-list : (a : Answers) (e : UsedEdges) → Further a (with_list a e)
Further-list a e = record { edges = (e ∷ [], refl); places = ([], sym (append-nil a.places)); orders = ([], sym (append-nil a.orders)) }

-- and an order more
pub Further-order : (a : Answers) (o : UsedOrder) → Further a (with_order a o)
Further-order a o = record { edges = ([], sym (append-nil a.edges)); places = ([], sym (append-nil a.places)); orders = (o ∷ [], refl) }

-- and a core number more
pub Further-place : (a : Answers) (p : UsedPlace) → Further a (with_place a p)
Further-place a p = record { edges = ([], sym (append-nil a.edges)); places = (p ∷ [], refl); orders = ([], sym (append-nil a.orders)) }

-- a mark more, where one answer more was kept
mark-more : (marks : List Bool) (v : ℕ) (before after : ℕ → Bool) → v < length marks → ((w : ℕ) → get_or marks w false ≡ before w)
    → ((w : ℕ) → after w ≡ (before w || eqb w v)) → (w : ℕ) → get_or (set marks v true) w false ≡ after w
mark-more marks v before after l was is w = elim (cases_eq w v) [
  | inl e ↦ ap (λ n. get_or (set marks v true) n false) e ∙ (get_or-set_same marks v true false l ∙ sym (is w ∙ or_right (before w) (eqb w v) (eq-eqb w v e)))
  | inr ne ↦ get_or-set_other marks v w true false ne ∙ (was w ∙ sym (is w ∙ (ap (λ b. before w || b) (ne_eqb w v ne) ∙ or-false (before w))))
]

-- a list more, which is marked
pub keeps_list : (s : Ranked) (a : Answers) (listed placed : List Bool) (e : UsedEdges) → KeepsAnswers s a listed placed
    → e.vertex < s.graph.size → AreNeighbours s.graph e.vertex e.neighbours
    → KeepsAnswers s (with_list a e) (set listed e.vertex true) placed
keeps_list s a listed placed e k l near = record {
  few = k.few;
  agrees = record {
    edges =
        All-push (λ (x : UsedEdges). (x.vertex < s.graph.size) × (x.neighbours ≡ neighbours_of s.graph x.vertex)) a.edges e k.agrees.edges
        (l, neighbours_are s.graph e.vertex e.neighbours near);
    places = k.agrees.places;
    orders = k.agrees.orders;
  };
  one_each = length-set listed e.vertex true ∙ k.one_each;
  one_each_too = k.one_each_too;
  lists = mark-more listed e.vertex (has_list a) (has_list (with_list a e)) (omega (arith, k.one_each, l)) k.lists
      (λ w. found-more list_answers w a.edges e);
  places = k.places;
}

-- a core number more, which is marked
pub keeps_place : (s : Ranked) (a : Answers) (listed placed : List Bool) (p : UsedPlace) → KeepsAnswers s a listed placed
    → p.vertex < s.graph.size → p.core ≡ get_or s.core p.vertex 0 → KeepsAnswers s (with_place a p) listed (set placed p.vertex true)
keeps_place s a listed placed p k l is = record {
  few = k.few;
  agrees = record {
    edges = k.agrees.edges;
    places = All-push (λ (x : UsedPlace). (x.vertex < s.graph.size) × (x.core ≡ get_or s.core x.vertex 0)) a.places p k.agrees.places (l, is);
    orders = k.agrees.orders;
  };
  one_each = k.one_each;
  one_each_too = length-set placed p.vertex true ∙ k.one_each_too;
  lists = k.lists;
  places = mark-more placed p.vertex (has_core a) (has_core (with_place a p)) (omega (arith, k.one_each_too, l)) k.places
      (λ w. found-more core_answers w a.places p);
}

-- an order more, which is that of the state
pub keeps_order : (s : Ranked) (a : Answers) (listed placed : List Bool) (o : UsedOrder) → KeepsAnswers s a listed placed
    → o.x < s.graph.size → o.y < s.graph.size
    → o.before ≡ ltb (place_of o.x s.order) (place_of o.y s.order) → KeepsAnswers s (with_order a o) listed placed
keeps_order s a listed placed o k lx ly is = record {
  few = k.few;
  agrees = record {
    edges = k.agrees.edges;
    places = k.agrees.places;
    orders =
        All-push
        (λ (x : UsedOrder). (x.x < s.graph.size) × (x.y < s.graph.size) × (x.before ≡ ltb (place_of x.x s.order) (place_of x.y s.order)))
        a.orders o k.agrees.orders (lx, ly, is);
  };
  one_each = k.one_each;
  one_each_too = k.one_each_too;
  lists = k.lists;
  places = k.places;
}

-- A list that is told for the first time: it is told now, and is the one that is told from now on.
pub record TellsNewList (a : Answers) (e : UsedEdges) : Type 0 where
  pub told : TellsList a (with_list a e) e.vertex
  pub list : e.neighbours ≡ list_of (with_list a e) e.vertex

-- so it is where the vertex had none
pub tells_new_list : (a : Answers) (e : UsedEdges) → has_list a e.vertex ≡ false → TellsNewList a e
tells_new_list a e none =
    let found : list_in e.vertex (a.edges ++ e ∷ []) ≡ Some e.neighbours = found-new list_answers a.edges e none in
    record {
      told = record { told = ap is_some found; before = λ t. absurd (false≢true (sym none ∙ t)); now = λ _. (e, refl, refl) };
      list = sym (ap (λ (o : Option (List ℕ)). unwrap_or o []) found);
    }

-- A core number that is told for the first time: it is told now, and is the one that is told from now on.
pub record TellsNewCore (a : Answers) (p : UsedPlace) : Type 0 where
  pub told : TellsCore a (with_place a p) p.vertex
  pub core : p.core ≡ core_of (with_place a p) p.vertex

-- so it is where the vertex had none
pub tells_new_core : (a : Answers) (p : UsedPlace) → has_core a p.vertex ≡ false → TellsNewCore a p
tells_new_core a p none =
    let found : core_in p.vertex (a.places ++ p ∷ []) ≡ Some p.core = found-new core_answers a.places p none in
    record {
      told = record { told = ap is_some found; before = λ t. absurd (false≢true (sym none ∙ t)); now = λ _. (p, refl, refl) };
      core = sym (ap (λ (o : Option ℕ). unwrap_or o 0) found);
    }

-- the neighbours of a vertex are a list as a view tells it
pub IsListOf-neighbours : (s : Ranked) (w : ℕ) (ws : List ℕ) → AreNeighbours s.graph w ws → IsListOf s.graph.size w ws
IsListOf-neighbours s w ws near = record { ascends = near.ascending; within = near.within; others = near.exact w ∙ adjacent-self s.graph w }

-- a vertex has no more neighbours than there are vertices
pub few_neighbours : (s : Ranked) (w : ℕ) (ws : List ℕ) → AreNeighbours s.graph w ws → length ws ≤ s.graph.size
few_neighbours s w ws near = below_bound s.graph.size ws (neighbours-distinct s.graph w ws near) near.within

-- the mark of a vertex says whether it was told
pub mark_tells : (marks : List Bool) (told : ℕ → Bool) (w : ℕ) (b : Bool) → w < length marks → ((v : ℕ) → get_or marks v false ≡ told v)
    → b ≡ get_or marks w b → b ≡ told w
mark_tells marks told w b l marked is = get_or_read marks w b l is false ∙ marked w

-- the neighbours of a vertex whose list was kept
pub same_neighbours : (s : Ranked) (a : Answers) (w : ℕ) (ws : List ℕ) → Agrees a s → AreNeighbours s.graph w ws → has_list a w ≡ true → ws ≡ list_of a w
same_neighbours s a w ws agrees near told = neighbours_are s.graph w ws near ∙ sym (list-true a s w agrees told).1
