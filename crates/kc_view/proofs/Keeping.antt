-- What a view kept, it keeps: lists and core numbers that were told stay, and a state that agrees now agreed before.
use Rattle.std.proofs.Common.{◌≡◌, ◌<◌, ℕ, Bool, true, [], ◌++◌, get_or, ltb, refl, sym, ◌∙◌, ap, subst, arith, le_refl, le_trans}
use Rattle.std.specs.Prelude.{All, is_some}
use Rattle.std.specs.Option.{unwrap_or}
use Rattle.std.proofs.lemmas.List.{append_assoc, append-nil}
use Rattle.kc_lists.specs.Lists.{place_of, member}
use Rattle.kc_lists.proofs.Shared.{All-front, All-end}
use Rattle.kc_graph.specs.Lawful.{Ranked}
use Rattle.kc_graph.specs.Neighbours.{neighbours_of}
use Rattle.kc_graph.specs.declared.used.UsedOrder.{UsedOrder}
use Rattle.kc_graph.specs.SimpleGraph.{adjacent}
use Rattle.kc_graph.proofs.NeighbourLists.{neighbours_has}
use Rattle.kc_view.specs.Answers.{Answers, Agrees, list_in, core_in, has_list, has_core, list_of, core_of, with_order}
use Rattle.kc_view.specs.Lists.{IsListOf, AreLists}
use Rattle.kc_view.specs.Views.{Further, Shown, Lasts, GoesOn}
use Rattle.kc_view.proofs.Lookups.{list_answers, core_answers, found-front, found-holds}

-- the list of a vertex that was told is still the one that is found
list-same : (old new : Answers) (w : ℕ) → Further old new → has_list old w ≡ true → list_in w new.edges ≡ list_in w old.edges
list-same old new w f h = ap (list_in w) f.edges.1 ∙ found-front list_answers w old.edges f.edges.0 h

-- the core number of a vertex that was told is still the one that is found
core-same : (old new : Answers) (w : ℕ) → Further old new → has_core old w ≡ true → core_in w new.places ≡ core_in w old.places
core-same old new w f h = ap (core_in w) f.places.1 ∙ found-front core_answers w old.places f.places.0 h

-- a list that was told is still told
pub still_has_list : (old new : Answers) (w : ℕ) → Further old new → has_list old w ≡ true → has_list new w ≡ true
still_has_list old new w f h = ap is_some (list-same old new w f h) ∙ h

-- the list that was told of a vertex stays
pub same_list : (old new : Answers) (w : ℕ) → Further old new → has_list old w ≡ true → list_of new w ≡ list_of old w
same_list old new w f h = ap (λ o. unwrap_or o []) (list-same old new w f h)

-- a core number that was told is still told
pub still_has_core : (old new : Answers) (w : ℕ) → Further old new → has_core old w ≡ true → has_core new w ≡ true
still_has_core old new w f h = ap is_some (core-same old new w f h) ∙ h

-- the core number that was told of a vertex stays
pub same_core : (old new : Answers) (w : ℕ) → Further old new → has_core old w ≡ true → core_of new w ≡ core_of old w
same_core old new w f h = ap (λ o. unwrap_or o 0) (core-same old new w f h)

-- a state that agrees with all answers agrees with the first of them
pub answers-agreed : (old new : Answers) (s : Ranked) → Further old new → Agrees new s → Agrees old s
answers-agreed old new s f a = record {
  edges = All-front (λ e. (e.vertex < s.graph.size) × (e.neighbours ≡ neighbours_of s.graph e.vertex)) old.edges f.edges.0
      (subst (All (λ e. (e.vertex < s.graph.size) × (e.neighbours ≡ neighbours_of s.graph e.vertex))) f.edges.1 a.edges);
  places = All-front (λ p. (p.vertex < s.graph.size) × (p.core ≡ get_or s.core p.vertex 0)) old.places f.places.0
      (subst (All (λ p. (p.vertex < s.graph.size) × (p.core ≡ get_or s.core p.vertex 0))) f.places.1 a.places);
  orders = All-front (λ o. (o.x < s.graph.size) × (o.y < s.graph.size) × (o.before ≡ ltb (place_of o.x s.order) (place_of o.y s.order))) old.orders f.orders.0
      (subst (All (λ o. (o.x < s.graph.size) × (o.y < s.graph.size) × (o.before ≡ ltb (place_of o.x s.order) (place_of o.y s.order)))) f.orders.1 a.orders);
}

-- answers go on from themselves
pub Further-refl : (a : Answers) → Further a a
Further-refl a = record { edges = ([], sym (append-nil a.edges)); places = ([], sym (append-nil a.places)); orders = ([], sym (append-nil a.orders)) }

-- answers that go on from others that go on from the first go on from the first
pub Further-trans : (a b c : Answers) → Further a b → Further b c → Further a c
Further-trans a b c f g = record {
  edges = (f.edges.0 ++ g.edges.0, g.edges.1 ∙ (ap (λ xs. xs ++ g.edges.0) f.edges.1 ∙ append_assoc a.edges f.edges.0 g.edges.0));
  places = (f.places.0 ++ g.places.0, g.places.1 ∙ (ap (λ xs. xs ++ g.places.0) f.places.1 ∙ append_assoc a.places f.places.0 g.places.0));
  orders = (f.orders.0 ++ g.orders.0, g.orders.1 ∙ (ap (λ xs. xs ++ g.orders.0) f.orders.1 ∙ append_assoc a.orders f.orders.0 g.orders.0));
}

-- what is true of a view stays true while nothing is called
pub Lasts-refl : (a : Shown) → Lasts a a
Lasts-refl a = record { same_size = refl; misses = le_refl a.misses; still_missed = λ x h. h; still_given = λ x h. h }

-- what stays true over two stretches stays true over both together
pub Lasts-trans : (a b c : Shown) → Lasts a b → Lasts b c → Lasts a c
Lasts-trans a b c f g = record {
  same_size = g.same_size ∙ f.same_size;
  misses = le_trans f.misses g.misses;
  still_missed = λ x h. g.still_missed x (f.still_missed x h);
  still_given = λ x h. g.still_given x (f.still_given x h);
}

-- a view goes on where nothing is called
pub GoesOn-refl : (a : Shown) → GoesOn a a
GoesOn-refl a = record { lasts = Lasts-refl a; handed = refl; further = Further-refl a.kept; lists = λ h. h }

-- a view that goes on, and again, goes on over both together
pub GoesOn-trans : (a b c : Shown) → GoesOn a b → GoesOn b c → GoesOn a c
GoesOn-trans a b c f g = record {
  lasts = Lasts-trans a b c f.lasts g.lasts;
  handed = g.handed ∙ f.handed;
  further = Further-trans a.kept b.kept c.kept f.further g.further;
  lists = λ h. g.lists (f.lists h);
}

-- a list that was told is that of its vertex in each state that agrees
pub list-true : (a : Answers) (s : Ranked) (w : ℕ) → Agrees a s → has_list a w ≡ true → (w < s.graph.size) × (list_of a w ≡ neighbours_of s.graph w)
list-true a s w g h =
    found-holds list_answers (λ v ws. (v < s.graph.size) × (ws ≡ neighbours_of s.graph v)) w a.edges [] g.edges h

-- a core number that was told is that of its vertex in each state that agrees
pub core-true : (a : Answers) (s : Ranked) (w : ℕ) → Agrees a s → has_core a w ≡ true → (w < s.graph.size) × (core_of a w ≡ get_or s.core w 0)
core-true a s w g h =
    found-holds core_answers (λ v n. (v < s.graph.size) × (n ≡ get_or s.core v 0)) w a.places 0 g.places h

-- and of an order
pub order-true : (a : Answers) (s : Ranked) (o : UsedOrder) → Agrees (with_order a o) s
    → (o.x < s.graph.size) × (o.y < s.graph.size) × (o.before ≡ ltb (place_of o.x s.order) (place_of o.y s.order))
order-true a s o g =
    All-end (λ o. (o.x < s.graph.size) × (o.y < s.graph.size) × (o.before ≡ ltb (place_of o.x s.order) (place_of o.y s.order))) a.orders o
    g.orders

-- where all lists are those of their vertices, the one of a vertex that is looked up is
pub kept-list : (size w : ℕ) (a : Answers) → AreLists size a.edges → has_list a w ≡ true → IsListOf size w (list_of a w)
unfolding AreLists
kept-list size w a all h = found-holds list_answers (IsListOf size) w a.edges [] all h

-- the list of one end tells whether the edge is there
pub tells-edge : (a : Answers) (s : Ranked) (u v : ℕ) (b : Bool) → Agrees a s → has_list a u ≡ true → v < s.graph.size
    → b ≡ member v (list_of a u) → adjacent s.graph u v ≡ b
tells-edge a s u v b agrees read l is = sym (is ∙ (ap (member v) (list-true a s u agrees read).1 ∙ neighbours_has s.graph u v l))

-- and where nothing was answered they are
pub no-lists : (size : ℕ) → AreLists size []
unfolding AreLists
no-lists size k d l = absurd (omega arith)
