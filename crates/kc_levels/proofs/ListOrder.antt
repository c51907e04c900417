-- How vertices stand in the list is how they stand in the order.
use Rattle.std.proofs.Common.{◌↔◌, ◌≡◌, ◌≢◌, ◌<◌, ℕ, Bool, true, List, [], ◌∷◌, ltb, sym, ◌∙◌, ap, subst, inl, inr, arith}
use Rattle.std.specs.List.{filter}
use Rattle.std.proofs.lemmas.Bool.{cases_Bool, cases_eq, cases_order, false≢true, lt-ltb}
use Rattle.kc_lists.specs.Lists.{member, place_of}
use Rattle.kc_lists.proofs.Counting.{filter-member, member-other}
use Rattle.kc_lists.proofs.Members.{place_of-first, place_of-next}
use Rattle.kc_table.specs.Log.{Seen}
use Rattle.kc_table.proofs.Listed.{Listed, list-stands}
use Rattle.kc_order.specs.Standing.{StandsBefore, list_after}
use Rattle.kc_levels.specs.Heads.{vertices_of}
use Rattle.kc_levels.specs.Levels.{Levelled, levelled, Tallied, size_of}
use Rattle.kc_levels.proofs.Cuts.{filter-yes, filter-no}

-- a filter keeps which of two that pass stands first
place-filter : (p : ℕ → Bool) (x y : ℕ) (xs : List ℕ) → p x ≡ true → p y ≡ true → place_of x xs < place_of y xs
    → place_of x (filter p xs) < place_of y (filter p xs)
place-filter p x y [] px py l = absurd (omega (arith, l))
place-filter p x y (z ∷ xs) px py l = elim (cases_eq y z) [
  | inl e ↦ absurd (omega (arith, l, place_of-first y z xs e))
  | inr ny ↦ elim (cases_eq x z) [
    | inl e ↦
        let is = filter-yes p z xs (sym (ap p e) ∙ px) in
        omega (arith, ap (place_of x) is, ap (place_of y) is, place_of-first x z (filter p xs) e, place_of-next y z (filter p xs) ny)
    | inr nx ↦
        let rest = place-filter p x y xs px py (omega (arith, l, place_of-next x z xs nx, place_of-next y z xs ny)) in
        elim (cases_Bool (p z)) [
          | inl t ↦ let is = filter-yes p z xs t in omega
              (arith, rest, ap (place_of x) is, ap (place_of y) is, place_of-next x z (filter p xs) nx, place_of-next y z (filter p xs) ny)
          | inr f ↦ let is = filter-no p z xs f in omega (arith, rest, ap (place_of x) is, ap (place_of y) is)
        ]
  ]
]

-- two have two places
place-apart : (x y : ℕ) (xs : List ℕ) → member x xs ≡ true → x ≢ y → place_of x xs ≢ place_of y xs
place-apart x y [] m ne = absurd (false≢true m)
place-apart x y (z ∷ xs) m ne = elim (cases_eq x z) [
  | inl e ↦ λ q. omega (arith, q, place_of-first x z xs e, place_of-next y z xs (λ k. ne (e ∙ sym k)))
  | inr nx ↦ elim (cases_eq y z) [
    | inl e ↦ λ q. omega (arith, q, place_of-first y z xs e, place_of-next x z xs nx)
    | inr ny ↦ λ q. place-apart x y xs (member-other x z xs nx m) ne (omega (arith, q, place_of-next x z xs nx, place_of-next y z xs ny))
  ]
]

-- two vertices stand in the list as in the order
pub stands-alike : (n x y : ℕ) (list : List ℕ) → x < n → y < n → x ≢ y → member x list ≡ true → member y list ≡ true
    → StandsBefore x y list ↔ StandsBefore x y (vertices_of n list)
stands-alike n x y list lx ly ne mx my =
    let vertex : ℕ → Bool = λ z. ltb z n in
    let px = lt-ltb x n lx in
    let py = lt-ltb y n ly in
    let fx = filter-member vertex x list mx px in
    let fy = filter-member vertex y list my py in (
      λ h. record { first = fx; second = fy; before = place-filter vertex x y list px py h.before },
      λ h. record {
        first = mx;
        second = my;
        before = elim (cases_order (place_of x list) (place_of y list)) [
          | inl e ↦ absurd (place-apart x y list mx ne e)
          | inr (inl l) ↦ l
          | inr (inr l) ↦ absurd (omega (arith, h.before, place-filter vertex y x list py px l))
        ];
      },
    )

-- what the levels' list has
pub vertex-listed : (s : Seen) (core stamps : List ℕ) (open_ : Bool) (number size v : ℕ) (old : Levelled) → levelled s core open_ ≡ old
    → Tallied (levelled s core open_) stamps number size → v < size_of old → member v (list_after s.table s.log) ≡ true
vertex-listed s core stamps open_ number size v old is h l =
    let listed : Listed s.table.shape (list_after s.table s.log) = (list-stands s.table.shape s.table.opening s.log h.are.legal).listed in
    listed.vertices v (omega (arith, l, ap size_of is))

-- how two vertices stand in the list is how they stand in the order, in the words of the contract
pub before-in-order : (s : Seen) (core stamps : List ℕ) (open_ : Bool) (number size x y : ℕ) (old : Levelled) (P : Type 0)
    → levelled s core open_ ≡ old → Tallied (levelled s core open_) stamps number size → (x < size_of old) × (y < size_of old) → x ≢ y
    → (P ↔ StandsBefore x y (list_after s.table s.log)) → P ↔ StandsBefore x y old.order
before-in-order s core stamps open_ number size x y old P is h l ne both =
    let k = stands-alike s.table.shape.fixed x y (list_after s.table s.log) (omega (arith, l.0, ap size_of is))
    (omega (arith, l.1, ap size_of is)) ne (vertex-listed s core stamps open_ number size x old is h l.0)
    (vertex-listed s core stamps open_ number size y old is h l.1) in
    subst (λ (z : Levelled). P ↔ StandsBefore x y z.order) is (λ p. k.0 (both.0 p), λ q. both.1 (k.1 q))
