-- Members of a list of numbers.
use Rattle.std.proofs.Common.{◌≡◌, ℕ, true, List, get_or, eqb, nat_eq, sym, ap, ◌∙◌, eqb-true}
use Rattle.std.specs.Prelude.{Contains}
use Rattle.std.specs.List.{dedup}
use Rattle.std.specs.Cmp.{nat_eq_equiv, both_ways}
use Rattle.std.proofs.lemmas.Map.Views.{list_any-from_Contains}
use Rattle.std.proofs.lemmas.List.Folds.{Any-from_list_any}
use Rattle.std.proofs.lemmas.List.Kept.{Contains-dedup_nat, Contains-from_dedup}
use Rattle.std.specs.Set.{is_member}

-- a member of a list stands at one of its places
pub Contains-from_member : (xs : List ℕ) (x : ℕ) → is_member nat_eq xs x ≡ true → Contains xs x
Contains-from_member xs x h =
    let (k, y, l, e, t) = Any-from_list_any (eqb x) xs h in
    let same : x ≡ y = eqb-true x y t in
    (k, l, ap (get_or xs k) same ∙ (e ∙ sym same))

-- a list that loses repeats beside one another keeps its members
pub is_member-dedup : (xs : List ℕ) (x : ℕ) → is_member nat_eq (dedup eqb xs) x ≡ is_member nat_eq xs x
is_member-dedup xs x = both_ways _ _
    (λ h. list_any-from_Contains nat_eq_equiv x xs (Contains-from_dedup eqb xs x (Contains-from_member (dedup eqb xs) x h)))
    (λ h. list_any-from_Contains nat_eq_equiv x (dedup eqb xs) (Contains-dedup_nat xs x (Contains-from_member xs x h)))
