-- The k-core is the vertices whose core number is no less than k, and its level those of just that number.
use Rattle.std.proofs.Common.{◌≡◌, ◌≤◌, ◌<◌, ◌+◌, ℕ, suc, zero, Bool, true, false, cond, List, [], ◌∷◌, ◌++◌, length, get_or, refl, sym}
use Rattle.std.proofs.Common.{◌∙◌, ap, subst, inl, inr, arith, leb, leb-true, le-leb, eqb, eq-eqb, length-append}
use Rattle.std.specs.Prelude.{slice_index}
use Rattle.std.specs.List.Sorted.{IsStrictlyIncreasing}
use Rattle.std.proofs.lemmas.Bool.{cases_Bool, cases_eq, cases_lt, eqb-true, false≢true}
use Rattle.std.proofs.lemmas.List.{get_or_append_left}
use Rattle.std.proofs.Math.Seq.{get_or-append_seam}
use Rattle.kc_lists.specs.Lists.{member}
use Rattle.kc_lists.proofs.Members.{member-append_left, member-append_right, member-head}
use Rattle.kc_lists.proofs.Counting.{member-from_Contains, Contains-from_member, member-get_or, member-push_cases}
use Rattle.kc_graph.specs.SimpleGraph.{SimpleGraph}
use Rattle.kc_graph.specs.Core.{IsCoreNumber, IsInCore, AreCoreNumbers}
use Rattle.kc_keeper.specs.Members.{AreCoreMembers, AreLevelMembers, places_where}

-- The list of places. --------------------------------------------------------------------------------

-- each place of the list is below the bound, and its number passes the test
places-sound : (is : ℕ → Bool) (core : List ℕ) (n v : ℕ) → member v (places_where is core n) ≡ true → (v < n) × (is (slice_index core v) ≡ true)
places-sound is core zero v m = absurd (false≢true m)
places-sound is core (suc n) v m =
    elim (is (slice_index core n)) as (λ t. is (slice_index core n) ≡ t
    → member v (cond t (places_where is core n ++ n ∷ []) (places_where is core n)) ≡ true → (v < suc n) × (is (slice_index core v) ≡ true)) [
      | true ↦ λ t h. elim (member-push_cases v n (places_where is core n) h) [
        | inl i ↦ let p = places-sound is core n v i in (omega (arith, p.0), p.1)
        | inr e ↦ (omega arith, subst (λ x. is (slice_index core x) ≡ true) (sym e) t)
      ]
      | false ↦ λ _ h. let p = places-sound is core n v h in (omega (arith, p.0), p.1)
    ] refl m

-- each place below the bound whose number passes the test is in the list
places-complete : (is : ℕ → Bool) (core : List ℕ) (n v : ℕ) → v < n → is (slice_index core v) ≡ true → member v (places_where is core n) ≡ true
places-complete is core zero v l h = absurd (omega arith)
places-complete is core (suc n) v l h = elim (cases_eq v n) [
  | inl e ↦
      let t : is (slice_index core n) ≡ true = subst (λ x. is (slice_index core x) ≡ true) e h in
      rw t (ap (λ x. member x (places_where is core n ++ n ∷ [])) e ∙ member-append_right n (places_where is core n) (n ∷ []) (member-head n []))
  | inr ne ↦ elim (cases_Bool (is (slice_index core n))) [
    | inl t ↦ rw t (member-append_left v (places_where is core n) (n ∷ []) (places-complete is core n v (omega arith) h))
    | inr f ↦ rw f (places-complete is core n v (omega arith) h)
  ]
]

-- a list that ascends ascends still with a number above all of it at its end
pub ascends-push : (xs : List ℕ) (x : ℕ) → IsStrictlyIncreasing xs → ((y : ℕ) → member y xs ≡ true → y < x) → IsStrictlyIncreasing (xs ++ x ∷ [])
ascends-push xs x up top k l = elim (cases_lt (k + 1) (length xs)) [
  | inl lt ↦ omega (arith, up k lt, get_or_append_left xs (x ∷ []) 0 k (omega arith), get_or_append_left xs (x ∷ []) 0 (k + 1) lt)
  | inr ge ↦
      let e : k + 1 ≡ length xs = omega (arith, l, length-append xs (x ∷ [])) in
      let lt : k < length xs = omega arith in
      let last : get_or (xs ++ x ∷ []) (k + 1) 0 ≡ x = ap (λ i. get_or (xs ++ x ∷ []) i 0) e ∙ get_or-append_seam xs x [] 0 in
      omega (arith, last, get_or_append_left xs (x ∷ []) 0 k lt, top (get_or xs k 0) (member-get_or xs k 0 lt))
]

-- the list of such places ascends
places-ascend : (is : ℕ → Bool) (core : List ℕ) (n : ℕ) → IsStrictlyIncreasing (places_where is core n)
places-ascend is core zero = λ i l. absurd (omega arith)
places-ascend is core (suc n) = elim (cases_Bool (is (slice_index core n))) [
  | inl t ↦ rw t (ascends-push (places_where is core n) n (places-ascend is core n) (λ y m. (places-sound is core n y m).0))
  | inr f ↦ rw f (places-ascend is core n)
]

-- The k-core and its level. ------------------------------------------------------------------------------

-- who has many neighbours has few
in_lower : (g : SimpleGraph) (j k v : ℕ) → k ≤ j → IsInCore g j v → IsInCore g k v
in_lower g j k v l (members, many, here) = (
  members,
  record {
    vertices = many.vertices;
    distinct = many.distinct;
    degrees = λ i d lt. omega (arith, l, many.degrees i d lt);
  },
  here,
)

-- a member of a k-core is a vertex
in_graph : (g : SimpleGraph) (k v : ℕ) → IsInCore g k v → v < g.size
in_graph g k v (members, many, here) = let (i, l, e) = here in subst (λ x. x < g.size) e (many.vertices i v l)

-- the vertices whose core numbers are no less than `k` are the members of the k-core
core_members : (g : SimpleGraph) (core : List ℕ) (k : ℕ) → AreCoreNumbers g core → AreCoreMembers g k (places_where (leb k) core g.size)
core_members g core k numbers = record {
  ascending = places-ascend (leb k) core g.size;
  exact = λ v. (
    λ c. let p = places-sound (leb k) core g.size v (member-from_Contains (places_where (leb k) core g.size) v c) in
        in_lower g (slice_index core v) k v (leb-true k (slice_index core v) p.1) (numbers.each v p.0).reached,
    λ i. let l : v < g.size = in_graph g k v i in
        Contains-from_member (places_where (leb k) core g.size) v
        (places-complete (leb k) core g.size v l (le-leb k (slice_index core v) ((numbers.each v l).greatest k i))),
  );
}

-- the vertices whose core number is `k` are those of its level
level_members : (g : SimpleGraph) (core : List ℕ) (k : ℕ) → AreCoreNumbers g core → AreLevelMembers g k (places_where (eqb k) core g.size)
level_members g core k numbers = record {
  ascending = places-ascend (eqb k) core g.size;
  exact = λ v. (
    λ c. let p = places-sound (eqb k) core g.size v (member-from_Contains (places_where (eqb k) core g.size) v c) in
        subst (IsCoreNumber g v) (sym (eqb-true k (slice_index core v) p.1)) (numbers.each v p.0),
    λ i. let l : v < g.size = in_graph g k v i.reached in
        let n = numbers.each v l in
        let same : k ≡ slice_index core v = omega (arith, n.greatest k i.reached, i.greatest (slice_index core v) n.reached) in
        Contains-from_member (places_where (eqb k) core g.size) v (places-complete (eqb k) core g.size v l (eq-eqb k (slice_index core v) same)),
  );
}

-- a list of such places is the k-core
pub are_core_members : (g : SimpleGraph) (core : List ℕ) (k : ℕ) (members : List ℕ) → AreCoreNumbers g core
    → members ≡ places_where (leb k) core (length core) → AreCoreMembers g k members
are_core_members g core k members numbers e =
    subst (AreCoreMembers g k) (sym (e ∙ ap (places_where (leb k) core) numbers.one_each)) (core_members g core k numbers)

-- and a list of those is its level
pub are_level_members : (g : SimpleGraph) (core : List ℕ) (k : ℕ) (members : List ℕ) → AreCoreNumbers g core
    → members ≡ places_where (eqb k) core (length core) → AreLevelMembers g k members
are_level_members g core k members numbers e =
    subst (AreLevelMembers g k) (sym (e ∙ ap (places_where (eqb k) core) numbers.one_each)) (level_members g core k numbers)
