-- What the table of names finds and keeps, as names.
use Rattle.std.proofs.Common.{◌≡◌, ◌+◌, ◌||◌, ◌<◌, ℕ, zero, suc, Bool, true, not, cond, List, [], ◌∷◌, ◌++◌, length, map, refl, sym, ap, ◌∙◌}
use Rattle.std.proofs.Common.{Option, None, Some, Vec, Global, arith, inl, inr, nat_lt, ltb-true}
use Rattle.std.specs.Prelude.{position, slice_get}
use Rattle.std.specs.List.{list_any, position_or_len}
use Rattle.std.specs.Str.{bytes_eq}
use Rattle.std.proofs.lemmas.Bool.{cases_Bool}
use Rattle.std.proofs.lemmas.List.{length-map, map-append}
use Rattle.indexmap.specs.IndexSet.{insert_key}
use Rattle.kc_names.specs.Names.{name_at, names_with, number_of}

-- the bytes of a name in the table
abbrev pub seen : Vec ℕ Global → List ℕ
seen name = name.items

-- whether a name in the table is the same as another
abbrev pub same : Vec ℕ Global → Vec ℕ Global → Bool
same a b = bytes_eq a.items b.items

-- a place by the bytes of the names is the place of a name
pub place-seen : (p : List ℕ → Bool) (xs : List (Vec ℕ Global)) → position_or_len (λ x. p (seen x)) xs ≡ position_or_len p (map seen xs)
place-seen p [] = refl
place-seen p (x ∷ xs) = ap (λ k. cond (not (p (seen x))) (1 + k) 0) (place-seen p xs)

-- so with whether some name passes
pub any-seen : (p : List ℕ → Bool) (xs : List (Vec ℕ Global)) → list_any (λ x. p (seen x)) xs ≡ list_any p (map seen xs)
any-seen p [] = refl
any-seen p (x ∷ xs) = ap (λ t. p (seen x) || t) (any-seen p xs)

-- where a place lies within a list, some item passes
within-any : (p : List ℕ → Bool) (xs : List (List ℕ)) → position_or_len p xs < length xs → list_any p xs ≡ true
within-any p [] h = absurd (omega arith)
within-any p (x ∷ xs) h = elim (cases_Bool (p x)) [
  | inl e ↦ ap (λ t. t || list_any p xs) e
  | inr e ↦
      let next : position_or_len p (x ∷ xs) ≡ 1 + position_or_len p xs = ap (λ t. cond (not t) (1 + position_or_len p xs) 0) e in
      ap (λ t. t || list_any p xs) e ∙ within-any p xs (omega (arith, h, next))
]

-- what a search finds is a place within
some-place : (p n number : ℕ) → cond (nat_lt p n) (Some p) None ≡ Some number → (number ≡ p) × (p < n)
some-place p n number e = elim (cases_Bool (nat_lt p n)) [
  | inl h ↦ let is : Some p ≡ Some number = sym (ap (λ t. cond t (Some p) None) h) ∙ e in (cc, ltb-true p n h)
  | inr h ↦ let is : None ≡ Some number = sym (ap (λ t. cond t (Some p) None) h) ∙ e in absurd (cc)
]

-- a name that is found has its number, and the names are as they were
pub found : (name : List ℕ) (table : List (Vec ℕ Global)) (number : ℕ) → position (λ x. bytes_eq name (seen x)) table ≡ Some number
    → (number ≡ number_of (map seen table) name) × (map seen table ≡ names_with (map seen table) name)
found name table number e =
    let names : List (List ℕ) = map seen table in
    let (is, within) = some-place (position_or_len (λ x. bytes_eq name (seen x)) table) (length table) number e in
    let place : position_or_len (λ x. bytes_eq name (seen x)) table ≡ number_of names name = place-seen (bytes_eq name) table in
    let there : list_any (bytes_eq name) names ≡ true = within-any (bytes_eq name) names (omega (arith, within, place, length-map table seen)) in
    (is ∙ place, sym (ap (λ t. cond t names (names ++ name ∷ [])) there))

-- a name that is put into the table is put among the names
pub put : (table : List (Vec ℕ Global)) (name : Vec ℕ Global) → map seen (insert_key same table name) ≡ names_with (map seen table) (seen name)
put table name = elim (cases_Bool (list_any (same name) table)) [
  | inl e ↦
      ap (λ t. map seen (cond t table (table ++ name ∷ []))) e
      ∙ sym (ap (λ t. cond t (map seen table) (map seen table ++ seen name ∷ [])) (sym (any-seen (bytes_eq (seen name)) table) ∙ e))
  | inr e ↦
      ap (λ t. map seen (cond t table (table ++ name ∷ []))) e ∙ map-append seen table (name ∷ [])
      ∙ sym (ap (λ t. cond t (map seen table) (map seen table ++ seen name ∷ [])) (sym (any-seen (bytes_eq (seen name)) table) ∙ e))
]

-- the bytes of a name, if there is one
abbrev pub bytes_of : Option (Vec ℕ Global) → List ℕ
bytes_of None = []
bytes_of (Some name) = seen name

-- the name of a number is the one at that place of the table
pub got : (table : List (Vec ℕ Global)) (number : ℕ) → bytes_of (slice_get table number) ≡ name_at (map seen table) number
got [] number = refl
got (name ∷ table) zero = refl
got (name ∷ table) (suc n) = got table n
