-- A state with more vertices, which have no edges: its order certifies its numbers, and the vertices of before keep theirs.
use Rattle.std.proofs.Common.{◌≡◌, ◌≤◌, ◌<◌, ◌+◌, ◌-◌, ◌&&◌, ℕ, zero, suc, Bool, true, false, nat_le, List, [], ◌∷◌, ◌++◌, length, drop, get_or, refl}
use Rattle.std.proofs.Common.{sym, ap, ◌∙◌, subst, inl, inr, arith, add-one, length-append}
use Rattle.std.specs.Prelude.{Contains, count_by}
use Rattle.std.proofs.lemmas.Bool.{cases_Bool, cases_eq, cases_lt}
use Rattle.std.proofs.lemmas.List.{get_or_append_left}
use Rattle.std.proofs.Math.Seq.{get_or-append_seam}
use Rattle.kc_lists.specs.Lists.{member}
use Rattle.kc_lists.proofs.Counting.{Contains-from_member, Distinct-from_pairs, count-agree, count-cons, count-no, pairs_from_Distinct}
use Rattle.kc_graph.specs.SimpleGraph.{SimpleGraph, adjacent, degree_among}
use Rattle.kc_graph.specs.Certificate.{Enumerates, degree_as_high}
use Rattle.kc_graph.specs.Lawful.{IsCertified, Ranked}
use Rattle.kc_graph.specs.Growing.{HasItsEnds, grown, with_more, with_one_more, with_vertices}

-- none of the listed numbers passes
none-counted : (p : ℕ → Bool) (xs : List ℕ) → ((x : ℕ) → p x ≡ false) → count_by p xs ≡ 0
none-counted p [] h = refl
none-counted p (x ∷ xs) h = count-no p x xs (h x) ∙ none-counted p xs h

-- a listed vertex is a vertex
pub order-below : (n : ℕ) (order : List ℕ) → Enumerates n order → (v : ℕ) → member v order ≡ true → v < n
order-below n order e v m = let (k, low, is) = Contains-from_member order v m in omega (arith, e.below k v low, is)

-- what has no edges has no neighbours
no-neighbours : (g : SimpleGraph) → HasItsEnds g → (w : ℕ) → adjacent g g.size w ≡ false
no-neighbours g ends w = elim (cases_Bool (adjacent g g.size w)) [ inl t ↦ absurd (omega (arith, ends g.size w t)) | inr f ↦ f ]

module _ (s : Ranked) (ends : HasItsEnds s.graph) (c : IsCertified s) where
  n : ℕ
  n = s.graph.size

  core' : List ℕ
  core' = s.core ++ 0 ∷ []

  old-core : (v : ℕ) → v < s.graph.size → get_or (s.core ++ 0 ∷ []) v 0 ≡ get_or s.core v 0
  old-core v low = get_or_append_left s.core (0 ∷ []) 0 v (omega (arith, c.one_each))

  new-core : get_or (s.core ++ 0 ∷ []) s.graph.size 0 ≡ 0
  new-core = ap (λ (k : ℕ). get_or (s.core ++ 0 ∷ []) k 0) (sym c.one_each) ∙ get_or-append_seam s.core 0 [] 0

  below-one : (k d : ℕ) → k < length (s.graph.size ∷ s.order) → get_or (s.graph.size ∷ s.order) k d < s.graph.size + 1
  below-one zero d low = omega arith
  below-one (suc k) d low = omega (arith, c.enumerates.below k d (omega arith))

  not-here : member s.graph.size s.order ≡ false
  not-here = elim (cases_Bool (member s.graph.size s.order)) [
    | inl t ↦ absurd (omega (arith, order-below s.graph.size s.order c.enumerates s.graph.size t))
    | inr f ↦ f
  ]

  complete-one : (v : ℕ) → v < s.graph.size + 1 → Contains (s.graph.size ∷ s.order) v
  complete-one v low = elim (cases_eq v s.graph.size) [
    | inl e ↦ (0, omega arith, sym e)
    | inr ne ↦ let (k, l, is) = c.enumerates.complete v (omega arith) in (suc k, omega arith, is)
  ]

  rising-one : (i j d : ℕ) → i < j → j < length (s.graph.size ∷ s.order)
      → get_or (s.core ++ 0 ∷ []) (get_or (s.graph.size ∷ s.order) i d) 0 ≤ get_or (s.core ++ 0 ∷ []) (get_or (s.graph.size ∷ s.order) j d) 0
  rising-one zero j d less low = omega (arith, new-core)
  rising-one (suc i) zero d less low = absurd (omega arith)
  rising-one (suc i) (suc j) d less low =
      omega (
        arith,
        c.rising i j d (omega arith) (omega arith),
        old-core (get_or s.order i d) (c.enumerates.below i d (omega arith)),
        old-core (get_or s.order j d) (c.enumerates.below j d (omega arith)),
      )

  few-suc : (i : ℕ) → i < length (s.graph.size ∷ s.order)
      → degree_among s.graph (drop (suc i) (s.graph.size ∷ s.order)) (get_or (s.graph.size ∷ s.order) i 0)
      ≤ get_or (s.core ++ 0 ∷ []) (get_or (s.graph.size ∷ s.order) i 0) 0
  few-suc zero low = omega (arith, none-counted (adjacent s.graph s.graph.size) s.order (no-neighbours s.graph ends))
  few-suc (suc i) low =
      let few : degree_among s.graph (drop (suc i) s.order) (get_or s.order i 0) ≤ get_or s.core (get_or s.order i 0) 0 =
      subst (λ (k : ℕ). degree_among s.graph (drop k s.order) (get_or s.order i 0) ≤ get_or s.core (get_or s.order i 0) 0) (add-one i)
      (c.few_later i (omega arith)) in
      omega (arith, few, old-core (get_or s.order i 0) (c.enumerates.below i 0 (omega arith)))

  few-one : (i : ℕ) → i < length (s.graph.size ∷ s.order)
      → degree_among s.graph (drop (i + 1) (s.graph.size ∷ s.order)) (get_or (s.graph.size ∷ s.order) i 0)
      ≤ get_or (s.core ++ 0 ∷ []) (get_or (s.graph.size ∷ s.order) i 0) 0
  few-one i low =
      subst (λ (k : ℕ). degree_among s.graph (drop k (s.graph.size ∷ s.order)) (get_or (s.graph.size ∷ s.order) i 0)
      ≤ get_or (s.core ++ 0 ∷ []) (get_or (s.graph.size ∷ s.order) i 0) 0) (sym (add-one i)) (few-suc i low)

  is-as-high : List ℕ → ℕ → ℕ → Bool
  is-as-high core v w = adjacent s.graph v w && nat_le (get_or core v 0) (get_or core w 0)

  enough-one : (v : ℕ) → v < s.graph.size + 1
      → get_or (s.core ++ 0 ∷ []) v 0 ≤ degree_as_high s.graph (s.core ++ 0 ∷ []) (s.graph.size ∷ s.order) v
  enough-one v low = elim (cases_eq v s.graph.size) [
    | inl e ↦ omega (arith, ap (λ (k : ℕ). get_or (s.core ++ 0 ∷ []) k 0) e ∙ new-core)
    | inr ne ↦
        let high : v < s.graph.size = omega arith in
        let same : count_by (λ w. adjacent s.graph v w && nat_le (get_or s.core v 0) (get_or s.core w 0)) s.order
        ≡ count_by (λ w. adjacent s.graph v w && nat_le (get_or (s.core ++ 0 ∷ []) v 0) (get_or (s.core ++ 0 ∷ []) w 0)) s.order =
        count-agree (λ w. adjacent s.graph v w && nat_le (get_or s.core v 0) (get_or s.core w 0))
        (λ w. adjacent s.graph v w && nat_le (get_or (s.core ++ 0 ∷ []) v 0) (get_or (s.core ++ 0 ∷ []) w 0)) s.order
        (λ w m i. adjacent s.graph v w && nat_le (sym (old-core v high) i) (sym (old-core w (order-below s.graph.size s.order c.enumerates w m)) i)) in
        omega (
          arith,
          c.enough_as_high v high,
          old-core v high,
          same,
          count-cons (λ w. adjacent s.graph v w && nat_le (get_or (s.core ++ 0 ∷ []) v 0) (get_or (s.core ++ 0 ∷ []) w 0)) s.graph.size s.order,
        )
  ]

  -- with one vertex more
  pub certified-one : IsCertified (with_one_more s)
  certified-one = record {
    one_each = omega (arith, length-append s.core (0 ∷ []), c.one_each);
    enumerates = record {
      below = below-one;
      distinct = pairs_from_Distinct (s.graph.size ∷ s.order) (not-here, Distinct-from_pairs s.order c.enumerates.distinct);
      complete = complete-one;
    };
    rising = rising-one;
    few_later = few-one;
    enough_as_high = enough-one;
  }

  -- and each end of an edge is a vertex
  pub ends-one : HasItsEnds (with_one_more s).graph
  ends-one v w near = omega (arith, ends v w near)

-- with any number of vertices more
pub certified-more : (count : ℕ) (s : Ranked) → HasItsEnds s.graph → IsCertified s → IsCertified (with_more count s) × HasItsEnds (with_more count s).graph
certified-more zero s ends c = (c, ends)
certified-more (suc count) s ends c =
    let before = certified-more count s ends c in (certified-one (with_more count s) before.1 before.0, ends-one (with_more count s) before.1 before.0)

-- the graph with any number of vertices more
pub graph-with_more : (count : ℕ) (s : Ranked) → (with_more count s).graph ≡ with_vertices (s.graph.size + count) s.graph
graph-with_more zero s = λ i. with_vertices (let e : s.graph.size ≡ s.graph.size + 0 = omega arith in e i) s.graph
graph-with_more (suc count) s =
    (λ i. with_vertices ((graph-with_more count s i).size + 1) (graph-with_more count s i))
    ∙ (λ i. with_vertices (let e : (s.graph.size + count) + 1 ≡ s.graph.size + suc count = omega arith in e i) s.graph)

-- the graph with so many vertices in all
pub graph-grown : (vertices : ℕ) (s : Ranked) → s.graph.size ≤ vertices → (grown vertices s).graph ≡ with_vertices vertices s.graph
graph-grown vertices s more =
    graph-with_more (vertices - s.graph.size) s
    ∙ λ i. with_vertices (let e : s.graph.size + (vertices - s.graph.size) ≡ vertices = omega arith in e i) s.graph

-- no vertex more
pub grown-same : (s : Ranked) → grown s.graph.size s ≡ s
grown-same s = ap (λ (k : ℕ). with_more k s) (let e : s.graph.size - s.graph.size ≡ 0 = omega arith in e)

-- each vertex more has a number
pub length-with_more : (count : ℕ) (s : Ranked) → length (with_more count s).core ≡ length s.core + count
length-with_more zero s = omega arith
length-with_more (suc count) s = omega (arith, length-append (with_more count s).core (0 ∷ []), length-with_more count s)

-- the vertices of before keep their numbers
pub old-with_more : (count : ℕ) (s : Ranked) (v : ℕ) → v < length s.core → get_or (with_more count s).core v 0 ≡ get_or s.core v 0
old-with_more zero s v low = refl
old-with_more (suc count) s v low =
    get_or_append_left (with_more count s).core (0 ∷ []) 0 v (omega (arith, length-with_more count s)) ∙ old-with_more count s v low

-- the vertices more have number 0
pub new-with_more : (count : ℕ) (s : Ranked) (v : ℕ) → length s.core ≤ v → v < length s.core + count → get_or (with_more count s).core v 0 ≡ 0
new-with_more zero s v high low = absurd (omega arith)
new-with_more (suc count) s v high low = elim (cases_lt v (length s.core + count)) [
  | inl lt ↦
      get_or_append_left (with_more count s).core (0 ∷ []) 0 v (omega (arith, length-with_more count s)) ∙ new-with_more count s v high lt
  | inr ge ↦
      let e : length (with_more count s).core ≡ v = omega (arith, length-with_more count s) in
      ap (λ (k : ℕ). get_or ((with_more count s).core ++ 0 ∷ []) k 0) (sym e) ∙ get_or-append_seam (with_more count s).core 0 [] 0
]
