-- Orders of vertices by core number and layer certify the core numbers.
use Rattle.std.proofs.Common.{◌≡◌, ◌≢◌, ◌≤◌, ◌<◌, ◌+◌, ℕ, Bool, true, ◌&&◌, List, length, get_or, drop, eqb, ltb, leb, sym, ◌∙◌, subst}
use Rattle.std.proofs.Common.{arith, eqb-true, inl, inr, le_trans, ltb-true}
use Rattle.std.specs.Prelude.{AllPairs, count_by}
use Rattle.std.proofs.lemmas.Bool.{and_from, and_parts, cases_lt, or_cases}
use Rattle.std.proofs.lemmas.List.{get_or-drop, length-drop}
use Rattle.kc_lists.specs.Lists.{Distinct, below, member}
use Rattle.kc_lists.proofs.Counting.{Contains-from_member, Distinct-drop, Distinct-from_pairs, count-le, count-mono, drop-member}
use Rattle.kc_lists.proofs.Counting.{member-below, member-from_Contains, pairs_from_Distinct}
use Rattle.kc_lists.proofs.Shared.{get_or-any}
use Rattle.kc_graph.specs.Certificate.{Certifies, Enumerates, degree_as_high}
use Rattle.kc_graph.specs.Core.{AreCoreNumbers}
use Rattle.kc_graph.specs.Peeling.{at}
use Rattle.kc_graph.specs.SimpleGraph.{SimpleGraph, adjacent, degree_among}
use Rattle.kc_graph.proofs.Existence.{certificate_exists}
use Rattle.kc_graph.proofs.Law.{certified-core_numbers, core-unique}
use Rattle.kc_graph.proofs.Places.{in_order}
use Rattle.kc_tally.specs.Keys.{stands_before}
use Rattle.kc_tally.specs.Layers.{AreLayers, is_left_at, left_at}
use Rattle.kc_tally.proofs.Certifying.{order-within}
use Rattle.kc_tally.proofs.Keys.{stands_before-left, stands_before-total, stands_before-trans}
use Rattle.kc_tally.proofs.Sorting.{Ascends-pairs, order_within}

-- of two places in a list, what stands behind a place stands at a later one
pairs-behind : (P : ℕ → ℕ → Type 0) (xs : List ℕ) (i w : ℕ) → AllPairs P xs → i < length xs → member w (drop (i + 1) xs) ≡ true → P (get_or xs i 0) w
pairs-behind P xs i w all l m =
    let (k, lk, at-k) = Contains-from_member (drop (i + 1) xs) w m in
    let low : (i + 1) + k < length xs = omega (arith, lk, length-drop (i + 1) xs) in
    let is : get_or xs ((i + 1) + k) 0 ≡ w = get_or-any xs ((i + 1) + k) 0 w low ∙ sym (get_or-drop (i + 1) xs k w) ∙ at-k in
    subst (P (get_or xs i 0)) is (all i ((i + 1) + k) 0 (omega arith) low)

-- who is left at the step in which another one is taken has no lesser core number
left-rises : (core rank : List ℕ) (v w : ℕ) → is_left_at core rank (at core v) (at rank v) w ≡ true → at core v ≤ at core w
left-rises core rank v w t = elim (or_cases (ltb (at core v) (at core w)) _ t) [
  | inl above ↦ omega (arith, ltb-true (at core v) (at core w) above)
  | inr on ↦ omega (arith, eqb-true (at core v) (at core w) (and_parts (eqb (at core v) (at core w)) (leb (at rank v) (at rank w)) on).0)
]

-- whichever order the vertices stand in, each has enough neighbours as high
enough-high : (g : SimpleGraph) (core order : List ℕ) → AreCoreNumbers g core → Enumerates g.size order → (v : ℕ) → v < g.size
    → at core v ≤ degree_as_high g core order v
enough-high g core order right e v l =
    let (other, first, c') = certificate_exists g in
    let c : Certifies g core first =
    subst (λ (numbers : List ℕ). Certifies g numbers first) (core-unique g other core (certified-core_numbers g other first c') right) c' in
    le_trans (c.enough_as_high v l)
    (count-le (λ w. adjacent g v w && leb (at core v) (at core w)) first order (Distinct-from_pairs first c.enumerates.distinct)
    (λ w m _. member-from_Contains order w (e.complete w (order-within g.size first w c.enumerates m))))

-- Where each vertex of an order is left at the step in which any one before it is taken, the order certifies the core numbers.
pub layers-certify : (g : SimpleGraph) (core rank order : List ℕ) → AreCoreNumbers g core → AreLayers g core rank → Enumerates g.size order
    → AllPairs (λ v w. is_left_at core rank (at core v) (at rank v) w ≡ true) order → Certifies g core order
layers-certify g core rank order right layers e left = record {
  one_each = right.one_each;
  enumerates = e;
  rising = λ i j d lt l. left-rises core rank _ _ (left i j d lt l);
  few_later = λ i l.
      let v : ℕ = get_or order i 0 in
      let rest : List ℕ = drop (i + 1) order in
      let stays : ℕ → Bool = λ w. adjacent g v w && is_left_at core rank (at core v) (at rank v) w in
      let more : degree_among g rest v ≤ count_by stays rest =
      count-mono (adjacent g v) stays rest
      (λ w m t. and_from _ _ t (pairs-behind (λ x y. is_left_at core rank (at core x) (at rank x) y ≡ true) order i w left l m)) in
      let all : count_by stays rest ≤ left_at g core rank (at rank v) v =
      count-le stays rest (below g.size) (Distinct-drop (i + 1) order (Distinct-from_pairs order e.distinct))
      (λ w m _. member-below w g.size (order-within g.size order w e (drop-member (i + 1) w order m))) in
      omega (arith, more, all, layers.taken v (in_order g.size order i e l));
  enough_as_high = λ v l. enough-high g core order right e v l;
}

-- Where names tell the vertices apart, there is an order by core number, layer and name, and it certifies the core numbers.
pub named-order : (g : SimpleGraph) (core rank names : List ℕ) → AreCoreNumbers g core → AreLayers g core rank → Distinct names → length names ≡ g.size
    → (order : List ℕ) × Certifies g core order × AllPairs (λ v w. stands_before core rank names v w ≡ true) order
named-order g core rank names right layers once long =
    let apart : (v w : ℕ) → v < g.size → w < g.size → v ≢ w → get_or names v 0 ≢ get_or names w 0 = λ v w lv lw ne.
    different names v w (pairs_from_Distinct names once) (omega (arith, lv, long)) (omega (arith, lw, long)) ne in
    let (order, e, ascends) = order_within (stands_before core rank names) g.size (stands_before-trans core rank names)
    (λ v w lv lw ne. stands_before-total core rank names v w (apart v w lv lw ne)) in
    let pairs : AllPairs (λ v w. stands_before core rank names v w ≡ true) order = Ascends-pairs (stands_before core rank names) order ascends in (
      order,
      layers-certify g core rank order right layers e (λ i j d lt l. stands_before-left core rank names _ _ (pairs i j d lt l)),
      pairs,
    )
  where
    different : (xs : List ℕ) (v w : ℕ) → AllPairs (λ x y. x ≢ y) xs → v < length xs → w < length xs → v ≢ w → get_or xs v 0 ≢ get_or xs w 0
    different xs v w all lv lw ne = elim (cases_lt v w) [
      | inl lt ↦ all v w 0 lt lw
      | inr le ↦ λ e. all w v 0 (omega (arith, le, ne)) lv (sym e)
    ]
