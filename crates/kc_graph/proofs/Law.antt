-- Certified numbers are the core numbers.
use Rattle.std.proofs.Common.{◌≡◌, ◌≤◌, ◌<◌, ◌+◌, ℕ, suc, Bool, true, false, ◌&&◌, List, [], ◌∷◌, length, get_or, drop, leb, refl, sym, ◌∙◌, ap}
use Rattle.std.proofs.Common.{subst, inl, inr, arith, true≢false, le_refl, le_trans, leb-true, le-leb, le-ltb, ap₂, lt-ltb, le_of_lt}
use Rattle.std.specs.Prelude.{⊤, AllPairs}
use Rattle.std.specs.List.{filter}
use Rattle.std.proofs.lemmas.Bool.{cases_Bool, and_parts, false≢true, cases_order}
use Rattle.std.proofs.lemmas.List.{ext_get_or}
use Rattle.std.proofs.lemmas.List.Elements.{All-contains, All-filter}
use Rattle.kc_lists.specs.Lists.{Distinct, member}
use Rattle.kc_lists.proofs.Members.{member-cases}
use Rattle.kc_graph.specs.SimpleGraph.{SimpleGraph, adjacent, degree_among}
use Rattle.kc_graph.specs.Core.{IsInCore, AreCoreNumbers}
use Rattle.kc_graph.specs.Certificate.{Certifies, degree_as_high}
use Rattle.kc_lists.proofs.Counting.{member-other, member-get_or, member-from_Contains, Contains-from_member, Distinct-from_pairs}
use Rattle.kc_lists.proofs.Counting.{pairs_from_Distinct, member-filter, filter-member, Distinct-filter, count-le, count-filter}

-- no vertex is its own neighbour
pub adjacent-self : (g : SimpleGraph) (v : ℕ) → adjacent g v v ≡ false
adjacent-self g v = rw (le-ltb v v (le_refl v)) refl

-- whose neighbour a vertex is, that is its neighbour
pub adjacent-sym : (g : SimpleGraph) (v w : ℕ) → adjacent g v w ≡ adjacent g w v
adjacent-sym g v w = elim (cases_order v w) [
  | inl e ↦ ap₂ (adjacent g) e (sym e)
  | inr (inl l) ↦ rw (lt-ltb v w l, le-ltb w v (le_of_lt l)) refl
  | inr (inr l) ↦ rw (le-ltb v w (le_of_lt l), lt-ltb w v l) refl
]

-- the numbers never fall along the list
abbrev Rising : (ℕ → ℕ) → List ℕ → Type 0
Rising c [] = ⊤
Rising c (v ∷ later) = ((w : ℕ) → member w later ≡ true → c v ≤ c w) × Rising c later

-- each vertex has few later neighbours
abbrev FewLater : SimpleGraph → (ℕ → ℕ) → List ℕ → Type 0
FewLater g c [] = ⊤
FewLater g c (v ∷ later) = (degree_among g later v ≤ c v) × FewLater g c later

-- The first of the members in the order has all its neighbours among them later.
first_member-neighbours : (g : SimpleGraph) (c : ℕ → ℕ) (k v : ℕ) (members : List ℕ) → Distinct members
    → ((u : ℕ) → member u members ≡ true → k ≤ degree_among g members u) → member v members ≡ true
    → (order : List ℕ) → Rising c order → FewLater g c order → ((x : ℕ) → member x members ≡ true → member x order ≡ true) → k ≤ c v
first_member-neighbours g c k v members distinct dense in' [] rising few each = absurd (false≢true (each v in'))
first_member-neighbours g c k v members distinct dense in' (u ∷ later) rising few each =
    elim (cases_Bool (member u members)) [
      | inl first ↦
          let among : degree_among g members u ≤ degree_among g later u = count-le (adjacent g u) members later distinct
          (λ x m a. member-other x u later (λ e. true≢false (sym a ∙ (ap (adjacent g u) e ∙ adjacent-self g u))) (each x m)) in
          let up : c u ≤ c v = elim (member-cases v u later (each v in')) [ inl e ↦ omega (arith, ap c e) | inr m ↦ rising.0 v m ] in
          omega (arith, dense u first, among, few.0, up)
      | inr none ↦ first_member-neighbours g c k v members distinct dense in' later rising.1 few.1
          (λ x m. member-other x u later (λ e. true≢false (sym m ∙ (ap (λ n. member n members) e ∙ none))) (each x m))
    ]

-- where no pair of places falls, the numbers never fall along the list
Rising-from_pairs : (c : ℕ → ℕ) (order : List ℕ) → AllPairs (λ v w. c v ≤ c w) order → Rising c order
Rising-from_pairs c [] h = tt
Rising-from_pairs c (v ∷ later) h = (
  λ w m.
      let k = Contains-from_member later w m in
      let step : c v ≤ c (get_or later k.0 w) = h 0 (suc k.0) w (omega arith) (omega (arith, k.1)) in subst (λ (x : ℕ). c v ≤ c x) k.2 step,
  Rising-from_pairs c later (λ i j d lt l. h (suc i) (suc j) d (omega arith) (omega arith)),
)

-- adding one to the next number gives the next of one added
one_more : (i : ℕ) → suc i + 1 ≡ suc (i + 1)
one_more i = omega arith

-- where at each place few neighbours come later, each vertex has few later ones
FewLater-from_places : (g : SimpleGraph) (c : ℕ → ℕ) (order : List ℕ)
    → ((i : ℕ) → i < length order → degree_among g (drop (i + 1) order) (get_or order i 0) ≤ c (get_or order i 0)) → FewLater g c order
FewLater-from_places g c [] h = tt
FewLater-from_places g c (v ∷ later) h = (
  h 0 (omega arith),
  FewLater-from_places g c later
      (λ i l.
      subst (λ (n : ℕ). degree_among g (drop n (v ∷ later)) (get_or later i 0) ≤ c (get_or later i 0)) (one_more i)
      (h (suc i) (omega arith))),
)

-- no core that a vertex is in is for more than its certified number
certified-greatest : (g : SimpleGraph) (core order : List ℕ) → Certifies g core order → (v k : ℕ) → IsInCore g k v → k ≤ get_or core v 0
certified-greatest g core order h v k (members, dense, in') =
    first_member-neighbours g (λ w. get_or core w 0) k v members (Distinct-from_pairs members dense.distinct)
    (λ u m. All-contains (λ w. k ≤ degree_among g members w) members u dense.degrees (Contains-from_member members u m))
    (member-from_Contains members v in') order
    (Rising-from_pairs (λ w. get_or core w 0) order h.rising)
    (FewLater-from_places g (λ w. get_or core w 0) order h.few_later)
    (λ x m. member-from_Contains order x (h.enumerates.complete x (All-contains (λ w. w < g.size) members x dense.vertices (Contains-from_member members x m))))

-- The vertices whose number is no less have enough neighbours among them.
certified-reached : (g : SimpleGraph) (core order : List ℕ) → Certifies g core order → (v : ℕ) → v < g.size → IsInCore g (get_or core v 0) v
certified-reached g core order h v l =
    let high : ℕ → Bool = λ w. leb (get_or core v 0) (get_or core w 0) in
    let members : List ℕ = filter high order in (
      members,
      record {
        vertices = All-filter high (λ w. w < g.size) order h.enumerates.below;
        distinct = pairs_from_Distinct members (Distinct-filter high order (Distinct-from_pairs order h.enumerates.distinct));
        degrees = λ i d in'.
            let w : ℕ = get_or members i d in
            let m = member-filter high w order (member-get_or members i d in') in
            let up : get_or core v 0 ≤ get_or core w 0 = leb-true _ _ m.1 in
            let below : w < g.size = All-contains (λ x. x < g.size) order w h.enumerates.below (Contains-from_member order w m.0) in
            let enough : get_or core w 0 ≤ degree_as_high g core order w = h.enough_as_high w below in
            let among : degree_as_high g core order w ≤ degree_among g members w =
            count-filter high (adjacent g w) (λ x. adjacent g w x && leb (get_or core w 0) (get_or core x 0))
            (λ x t. let a = and_parts (adjacent g w x) (leb (get_or core w 0) (get_or core x 0)) t in
            (le-leb (get_or core v 0) (get_or core x 0) (le_trans up (leb-true _ _ a.1)), a.0)) order in
            le_trans up (le_trans enough among);
      },
      Contains-from_member members v
          (filter-member high v order (member-from_Contains order v (h.enumerates.complete v l)) (le-leb _ _ (le_refl (get_or core v 0)))),
    )

-- certified numbers are the core numbers
pub certified-core_numbers : (g : SimpleGraph) (core order : List ℕ) → Certifies g core order → AreCoreNumbers g core
certified-core_numbers g core order h = record {
  one_each = h.one_each;
  each = λ v l. record { reached = certified-reached g core order h v l; greatest = λ k in'. certified-greatest g core order h v k in' };
}

-- a graph has one list of core numbers
pub core-unique : (g : SimpleGraph) (first second : List ℕ) → AreCoreNumbers g first → AreCoreNumbers g second → first ≡ second
core-unique g first second a b = ext_get_or 0 first second (a.one_each ∙ sym b.one_each) (λ v l.
    let in' : v < g.size = omega (arith, a.one_each) in
    let one : get_or first v 0 ≤ get_or second v 0 = (b.each v in').greatest (get_or first v 0) (a.each v in').reached in
    let other : get_or second v 0 ≤ get_or first v 0 = (a.each v in').greatest (get_or second v 0) (b.each v in').reached in
    omega arith)
