-- What is counted and compared of numbered edges is counted and compared of the edges that were told.
use Rattle.std.proofs.Common.{◌≡◌, ◌≤◌, ◌++◌, ◌||◌, ◌∙◌, ℕ, suc, Bool, true, false, cond, not, List, [], ◌∷◌, None, Some, ap, ap₂, arith}
use Rattle.std.proofs.Common.{eq-eqb, eqb-true, inl, inr, le-ltb, length, lt-ltb, map, nat_eq, nat_lt, refl, sym}
use Rattle.std.specs.Prelude.{◌==◌, ◌&&◌, filter}
use Rattle.std.specs.Cmp.{both_ways}
use Rattle.std.specs.List.{cons_option, filter_map, list_all}
use Rattle.std.specs.Set.{is_member}
use Rattle.std.proofs.lemmas.Bool.{and_from, and_parts, cases_lt, false≢true, ne_eqb, or_cases, or_left, or_right}
use Rattle.kc_text.specs.Inputs.{IsNamedEdges, between, numbered, place}
use Rattle.kc_text.specs.Meaning.{Told, changes, ends, ends_of, names}
use Rattle.kc_text.specs.declared.named_edges.NamedEdges.{NamedEdges}
use Rattle.kc_text.proofs.Places.{place-injective}
use Rattle.kc_head.specs.Sizes.{are_sizes_of, count_with, is_sized, joins_two, may_be_sizes}

-- what all items of a list pass is passed by a member
member-passes : (p : ℕ → Bool) (xs : List ℕ) (x : ℕ) → list_all p xs ≡ true → is_member nat_eq xs x ≡ true → p x ≡ true
member-passes p [] x all m = absurd (false≢true m)
member-passes p (y ∷ ys) x all m =
    let (here, rest) = and_parts (p y) (list_all p ys) all in
    elim (or_cases (nat_eq x y) (is_member nat_eq ys x) m) [ inl e ↦ ap p (eqb-true x y e) ∙ here | inr k ↦ member-passes p ys x rest k ]

-- all items of a list pass where its members do
members-pass : (p : ℕ → Bool) (xs : List ℕ) → ((x : ℕ) → is_member nat_eq xs x ≡ true → p x ≡ true) → list_all p xs ≡ true
members-pass p [] h = refl
members-pass p (y ∷ ys) h =
    and_from (p y) (list_all p ys) (h y (or_left (nat_eq y y) (is_member nat_eq ys y) (eq-eqb y y refl)))
    (members-pass p ys (λ x m. h x (or_right (nat_eq x y) (is_member nat_eq ys x) m)))

-- lists with the same members pass alike
same-pass : (p : ℕ → Bool) (xs ys : List ℕ) → ((x : ℕ) → is_member nat_eq xs x ≡ is_member nat_eq ys x) → list_all p xs ≡ list_all p ys
same-pass p xs ys same = both_ways _ _
    (λ h. members-pass p ys (λ x m. member-passes p xs x h (same x ∙ m)))
    (λ h. members-pass p xs (λ x m. member-passes p ys x h (sym (same x) ∙ m)))

-- the ends of the first edges are ends of all
ends-front : (xs ys : List (ℕ × ℕ)) (x : ℕ) → is_member nat_eq (ends xs) x ≡ true → is_member nat_eq (ends (xs ++ ys)) x ≡ true
ends-front [] ys x m = absurd (false≢true m)
ends-front (e ∷ xs) ys x m = elim (or_cases (nat_eq x e.0) (nat_eq x e.1 || is_member nat_eq (ends xs) x) m) [
  | inl a ↦ or_left (nat_eq x e.0) _ a
  | inr more ↦ or_right (nat_eq x e.0) _ (elim (or_cases (nat_eq x e.1) (is_member nat_eq (ends xs) x) more) [
    | inl b ↦ or_left (nat_eq x e.1) _ b
    | inr k ↦ or_right (nat_eq x e.1) _ (ends-front xs ys x k)
  ])
]

-- places of ids are equal just where the ids are
same-place : (ids : List ℕ) (a b : ℕ) → is_member nat_eq ids a ≡ true → nat_eq (place ids a) (place ids b) ≡ nat_eq a b
same-place ids a b m = both_ways _ _
    (λ h. eq-eqb a b (place-injective ids a b m (eqb-true (place ids a) (place ids b) h)))
    (λ h. eq-eqb (place ids a) (place ids b) (ap (place ids) (eqb-true a b h)))

-- a pair of two numbers that do not ascend is counted just where an edge is no loop that has equal ends where they are equal
turned-counted : (u v : ℕ) (e : ℕ × ℕ) (rest kept : List (ℕ × ℕ)) → v ≤ u → nat_eq u v ≡ nat_eq e.0 e.1 → length rest ≡ length kept
    → length (cons_option (cond (nat_lt v u) (Some (v, u)) None) rest) ≡ length (cond (joins_two e) (e ∷ kept) kept)
turned-counted u v e rest kept g same less = elim (cases_lt v u) [
  | inl l ↦
      let apart : nat_eq e.0 e.1 ≡ false = sym same ∙ ne_eqb u v (λ q. absurd (omega (arith, l, q))) in
      ap (λ (b : Bool). length (cons_option (cond b (Some (v, u)) None) rest)) (lt-ltb v u l)
      ∙ ap suc less ∙ sym (ap (λ (b : Bool). length (cond (not b) (e ∷ kept) kept)) apart)
  | inr g' ↦
      let one : nat_eq e.0 e.1 ≡ true = sym same ∙ eq-eqb u v (omega (arith, g, g')) in
      ap (λ (b : Bool). length (cons_option (cond b (Some (v, u)) None) rest)) (le-ltb v u g')
      ∙ less ∙ sym (ap (λ (b : Bool). length (cond (not b) (e ∷ kept) kept)) one)
]

-- so with any two numbers
pair-counted : (u v : ℕ) (e : ℕ × ℕ) (rest kept : List (ℕ × ℕ)) → nat_eq u v ≡ nat_eq e.0 e.1 → length rest ≡ length kept
    → length (cons_option (between u v) rest) ≡ length (cond (joins_two e) (e ∷ kept) kept)
pair-counted u v e rest kept same less = elim (cases_lt u v) [
  | inl l ↦
      let apart : nat_eq e.0 e.1 ≡ false = sym same ∙ ne_eqb u v (λ q. absurd (omega (arith, l, q))) in
      ap (λ (b : Bool). length (cons_option (cond b (Some (u, v)) (cond (nat_lt v u) (Some (v, u)) None)) rest)) (lt-ltb u v l)
      ∙ ap suc less ∙ sym (ap (λ (b : Bool). length (cond (not b) (e ∷ kept) kept)) apart)
  | inr g ↦
      ap (λ (b : Bool). length (cons_option (cond b (Some (u, v)) (cond (nat_lt v u) (Some (v, u)) None)) rest)) (le-ltb u v g)
      ∙ turned-counted u v e rest kept g same less
]

-- the edges between places of ids are as many as the edges that are no loops
edges-counted : (ids : List ℕ) (es : List (ℕ × ℕ)) → ((x : ℕ) → is_member nat_eq (ends es) x ≡ true → is_member nat_eq ids x ≡ true)
    → length (filter_map (numbered ids) es) ≡ length (filter joins_two es)
edges-counted ids [] h = refl
edges-counted ids (e ∷ es) h =
    pair-counted (place ids e.0) (place ids e.1) e (filter_map (numbered ids) es) (filter joins_two es)
    (same-place ids e.0 e.1 (h e.0 (or_left (nat_eq e.0 e.0) _ (eq-eqb e.0 e.0 refl))))
    (edges-counted ids es (λ x m. h x (or_right (nat_eq x e.0) _ (or_right (nat_eq x e.1) _ m))))

-- a pair that may be sizes by the numbered edges and their ids may be sizes by what was told
pub sizes-told : (pair : ℕ × ℕ) (told : Told) (named : NamedEdges) → IsNamedEdges told named
    → are_sizes_of pair (length named.edges.items) named.ids.items ≡ may_be_sizes pair told
sizes-told pair told named are =
    let ids : List ℕ = named.ids.items in
    let counted : length named.edges.items ≡ length (filter joins_two told.edges) =
    ap length are.edges ∙ edges-counted ids told.edges
    (λ x m. are.named.exact x ∙ ends-front told.edges (map ends_of (changes told)) x m) in
    ap₂ (λ (n : ℕ) (b : Bool). nat_lt 1 pair.0 && (nat_lt 0 pair.1 && (n == count_with pair && b))) counted
    (same-pass (is_sized pair) ids (names told) are.named.exact)
