-- Counting different ids.
use Rattle.std.proofs.Common.{◌≡◌, ◌≤◌, ◌⊎◌, ℕ, Bool, true, false, cond, ◌||◌, List, [], ◌∷◌, ◌++◌, refl, sym, ap, ◌∙◌, inl, inr, nat_eq, nat_lt}
use Rattle.std.proofs.Common.{le-ltb, eqb-true, Option, Some, None}
use Rattle.std.specs.Prelude.{IfSome, is_some}
use Rattle.std.specs.Set.{is_member, distinct_count, unique_keys}
use Rattle.std.specs.HashSet.{HashSet, IsUnique, contains}
use Rattle.std.specs.List.{IsDistinct, AllByRecursion}
use Rattle.std.specs.Cmp.{nat_eq_equiv}
use Rattle.std.proofs.lemmas.Bool.{cases_Bool, or_right, or_parts, false≢true}
use Rattle.std.proofs.lemmas.Map.Keys.{IsDistinct-cons}
use Rattle.std.proofs.lemmas.Map.Made.{hash_set_len-from_list, length-le_from_is_member}
use Rattle.kc_text.specs.Meaning.{ends}
use Rattle.kc_text.specs.Readers.{Gains, is_over}

-- a list without its repeats has the same members
pub is_member-unique : (xs : List ℕ) (q : ℕ) → is_member nat_eq (unique_keys nat_eq xs) q ≡ is_member nat_eq xs q
is_member-unique [] q = refl
is_member-unique (x ∷ xs) q =
    elim (is_member nat_eq xs x) as (λ b. is_member nat_eq xs x ≡ b
    → is_member nat_eq (cond b (unique_keys nat_eq xs) (x ∷ unique_keys nat_eq xs)) q ≡ (nat_eq q x || is_member nat_eq xs q)) [
      | true ↦ λ had. is_member-unique xs q ∙ sym (absorbed had)
      | false ↦ λ _. ap (λ b. nat_eq q x || b) (is_member-unique xs q)
    ] refl
  where
    absorbed : is_member nat_eq xs x ≡ true → (nat_eq q x || is_member nat_eq xs q) ≡ is_member nat_eq xs q
    absorbed had = elim (cases_Bool (nat_eq q x)) [
      | inl e ↦ ap (λ b. b || is_member nat_eq xs q) e ∙ sym (ap (is_member nat_eq xs) (eqb-true q x e) ∙ had)
      | inr n ↦ ap (λ b. b || is_member nat_eq xs q) n
    ]

-- what is no member of a list equals none of its elements
nonmember-apart : (x : ℕ) (ys : List ℕ) → is_member nat_eq ys x ≡ false → AllByRecursion (λ y. nat_eq x y ≡ false) ys
nonmember-apart x [] h = tt
nonmember-apart x (y ∷ ys) h = let parts = or_parts (nat_eq x y) (is_member nat_eq ys x) h in (parts.0, nonmember-apart x ys parts.1)

-- in a list without its repeats no element stands twice
pub IsDistinct-unique : (xs : List ℕ) → IsDistinct nat_eq (unique_keys nat_eq xs)
unfolding IsDistinct
IsDistinct-unique [] = tt
IsDistinct-unique (x ∷ xs) =
    elim (is_member nat_eq xs x) as (λ b. is_member nat_eq xs x ≡ b → IsDistinct nat_eq (cond b (unique_keys nat_eq xs) (x ∷ unique_keys nat_eq xs))) [
      | true ↦ λ _. IsDistinct-unique xs
      | false ↦ λ h. IsDistinct-cons nat_eq x (unique_keys nat_eq xs) (nonmember-apart x (unique_keys nat_eq xs) (is_member-unique xs x ∙ h))
          (IsDistinct-unique xs)
    ] refl

-- a list whose members are all in another has no more different ones
pub distinct_count-le_from_members : (xs ys : List ℕ) → ((q : ℕ) → is_member nat_eq xs q ≡ true → is_member nat_eq ys q ≡ true)
    → distinct_count nat_eq xs ≤ distinct_count nat_eq ys
distinct_count-le_from_members xs ys within =
    length-le_from_is_member nat_eq_equiv (unique_keys nat_eq xs) (unique_keys nat_eq ys) (IsDistinct-unique xs)
    (λ q h. is_member-unique ys q ∙ within q (sym (is_member-unique xs q) ∙ h))

-- the second list has two more names than the first
abbrev pub NamesMore : List ℕ → List ℕ → ℕ → ℕ → Type 0
NamesMore xs ys a b = (q : ℕ) → is_member nat_eq ys q ≡ (nat_eq q b || (nat_eq q a || is_member nat_eq xs q))

-- with two more names the different ones are no fewer
pub fewer_names : (xs ys : List ℕ) (a b : ℕ) → NamesMore xs ys a b → distinct_count nat_eq xs ≤ distinct_count nat_eq ys
fewer_names xs ys a b more = distinct_count-le_from_members xs ys (λ q h. more q ∙ or_right (nat_eq q b) _ (or_right (nat_eq q a) _ h))

-- the set of ids, if there is one, has just the names of a list
abbrev pub Has : {S : Type 0} → Option (HashSet ℕ S) → List ℕ → Type 0
Has ids xs = IfSome ids (λ s. (q : ℕ) → contains nat_eq s q ≡ is_member nat_eq xs q)

-- a set that gains two ids has the names of the list that has these two more
pub has_more : {S : Type 0} (old new : Option (HashSet ℕ S)) (xs ys : List ℕ) (a b : ℕ) → NamesMore xs ys a b → Gains old new a b → Has old xs → Has new ys
has_more None None xs ys a b more gains had = tt
has_more None (Some s) xs ys a b more gains had = absurd gains
has_more (Some r) None xs ys a b more gains had = absurd gains
has_more (Some r) (Some s) xs ys a b more gains had = λ q. gains q ∙ ap (λ t. nat_eq q b || (nat_eq q a || t)) (had q) ∙ sym (more q)

-- there is a set of ids, or the different names are within the limit
abbrev pub Exact : {S : Type 0} → ℕ → Option (HashSet ℕ S) → List ℕ → Type 0
Exact limit ids xs = (is_some ids ≡ true) ⊎ (distinct_count nat_eq xs ≤ limit)

-- the set of ids is over the limit just where the different names are, if the count is exact
pub over_is : {S : Type 0} (limit : ℕ) (ids : Option (HashSet ℕ S)) (xs : List ℕ) → Has ids xs → IfSome ids (IsUnique nat_eq) → Exact limit ids xs
    → is_over limit ids ≡ nat_lt limit (distinct_count nat_eq xs)
over_is limit None xs has unique (inl counts) = absurd (false≢true counts)
over_is limit None xs has unique (inr few) = sym (le-ltb limit (distinct_count nat_eq xs) few)
over_is limit (Some s) xs has unique exact = ap (λ (n : ℕ). nat_lt limit n) (hash_set_len-from_list nat_eq_equiv xs s (has, unique))

-- of two tests joined by or it doesn't matter which is first
or-flipped : (a b : Bool) → (a || (b || false)) ≡ (b || (a || false))
or-flipped true true = refl
or-flipped true false = refl
or-flipped false true = refl
or-flipped false false = refl

-- of tests joined by or, two brought behind two others
or-shuffled : (x y a b r : Bool) → (x || (y || (b || (a || r)))) ≡ (b || (a || (x || (y || r))))
or-shuffled true true true true r = refl
or-shuffled true true true false r = refl
or-shuffled true true false true r = refl
or-shuffled true true false false r = refl
or-shuffled true false true true r = refl
or-shuffled true false true false r = refl
or-shuffled true false false true r = refl
or-shuffled true false false false r = refl
or-shuffled false true true true r = refl
or-shuffled false true true false r = refl
or-shuffled false true false true r = refl
or-shuffled false true false false r = refl
or-shuffled false false true true r = refl
or-shuffled false false true false r = refl
or-shuffled false false false true r = refl
or-shuffled false false false false r = refl

-- one edge more gives its two ends as names
pub ends-more : (es : List (ℕ × ℕ)) (a b : ℕ) → NamesMore (ends es) (ends (es ++ (a, b) ∷ [])) a b
ends-more [] a b = λ q. or-flipped (nat_eq q a) (nat_eq q b)
ends-more (e ∷ es) a b = λ q.
    ap (λ t. nat_eq q e.0 || (nat_eq q e.1 || t)) (ends-more es a b q)
    ∙ or-shuffled (nat_eq q e.0) (nat_eq q e.1) (nat_eq q a) (nat_eq q b) (is_member nat_eq (ends es) q)

-- the ends of edges with one more at the end: its first, then its second behind all others
pub ends-push : (es : List (ℕ × ℕ)) (e : ℕ × ℕ) → ends (es ++ e ∷ []) ≡ (ends es ++ e.0 ∷ []) ++ e.1 ∷ []
ends-push [] e = refl
ends-push (f ∷ es) e = ap (λ (t : List ℕ). f.0 ∷ f.1 ∷ t) (ends-push es e)
