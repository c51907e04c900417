-- Texts that are put on a summed page one after another.
use Rattle.std.proofs.Common.{◌≡◌, ◌<◌, ◌+◌, ◌++◌, ◌∙◌, ◌⊎◌, ℕ, zero, suc, List, [], ◌∷◌, Option, length, take, drop, get_or}
use Rattle.std.proofs.Common.{ap, append-nil, append_assoc, arith, inl, inr, refl, subst, sym}
use Rattle.std.specs.List.{flat_map}
use Rattle.kc_flat.specs.Listing.{ascending_below}
use Rattle.kc_flat.proofs.Listed.{flat_map-next, flat_map-suc}
use Rattle.std.specs.Prelude.{OnErr, OnOk, Result}
use Rattle.std.proofs.lemmas.List.{get_or_default}
use Rattle.std.proofs.lemmas.Result.{on_err_weaker, on_ok_weaker}
use Rattle.kc_lists.proofs.Results.{on_err-anyhow}
use Rattle.kc_lines.specs.Pages.{PassesOn, PassesPart}
use Rattle.kc_lines.proofs.Paging.{PassesOn-trans, PassesPart-later, PassesPart-wider}
use Rattle.kc_lines.proofs.Turning.{flat_map-parts, flat_map-turn}
use Rattle.kc_state.specs.SummedPages.{HasPut}
use Rattle.kc_state.specs.Texts.{sum_from, with_byte}
use Rattle.kc_state.specs.declared.summed_page.SummedPage.{SummedPage}

-- the check sum of two texts is that of the second from that of the first
pub sum-append : (sum : ℕ) (xs ys : List ℕ) → sum_from sum (xs ++ ys) ≡ sum_from (sum_from sum xs) ys
sum-append sum [] ys = refl
sum-append sum (x ∷ xs) ys = sum-append (with_byte sum x) xs ys

-- one text after another
pub HasPut-trans : (t t' t'' : Option (List ℕ)) (s s' s'' : SummedPage) (first second : List ℕ) → HasPut t t' s s' first → HasPut t' t'' s' s'' second
    → HasPut t t'' s s'' (first ++ second)
HasPut-trans t t' t'' s s' s'' first second one two = record {
  passes = PassesOn-trans t t' t'' s.page s'.page s''.page first second one.passes two.passes;
  summed = two.summed ∙ ap (λ n. sum_from n second) one.summed ∙ sym (sum-append s.sum first second);
}

-- a call that puts a text behind another one puts both, whatever else they are called
pub put-then : {T E : Type 0} (r : Result T E) (t t' t'' : Option (List ℕ)) (s s' s'' : SummedPage) (first second one two : List ℕ) → one ≡ first
    → two ≡ second → HasPut t t' s s' one → OnOk r (HasPut t' t'' s' s'' two) → OnOk r (HasPut t t'' s s'' (first ++ second))
put-then r t t' t'' s s' s'' first second one two is is' put =
    on_ok_weaker r (λ last. HasPut-trans t t' t'' s s' s'' first second (subst (HasPut t t' s s') is put) (subst (HasPut t' t'' s' s'') is' last))

-- a call that puts a part of a text behind another one puts a part of both
pub part-then : {T E : Type 0} (r : Result T E) (t t' t'' : Option (List ℕ)) (s s' : SummedPage) (first second one two : List ℕ) → one ≡ first
    → two ≡ second → HasPut t t' s s' one → OnErr r (PassesPart t' t'' s'.page two) → OnErr r (PassesPart t t'' s.page (first ++ second))
part-then r t t' t'' s s' first second one two is is' put =
    on_err_weaker r (λ last. PassesPart-later t t' t'' s.page s'.page first second (subst (PassesOn t t' s.page s'.page) is put.passes)
    (subst (PassesPart t' t'' s'.page) is' last))

-- a part of the first of two texts is a part of both
pub part-first : {T E : Type 0} (r : Result T E) (t t' : Option (List ℕ)) (page first second one : List ℕ) → one ≡ first
    → PassesPart t t' page one → OnErr r (PassesPart t t' page (first ++ second))
part-first r t t' page first second one is part =
    on_err-anyhow r (PassesPart-wider t t' page first second (subst (PassesPart t t' page) is part))

-- what is made of all numbers below `n` is what is made of those below one of them, of this one, and of the others
pub below-parts : (f : ℕ → List ℕ) (i n : ℕ) → i < n
    → (rest : List ℕ) × (flat_map f (ascending_below i) ++ (f i ++ rest) ≡ flat_map f (ascending_below n))
below-parts f i zero h = absurd (omega arith)
below-parts f i (suc n) h = elim (cases i n h) [
  | inl e ↦
      ([], ap (λ t. flat_map f (ascending_below i) ++ t) (append-nil (f i)) ∙ ap (λ m. flat_map f (ascending_below m) ++ f m) e ∙ sym (flat_map-suc f n))
  | inr l ↦
      let (rest, is) = below-parts f i n l in (
        rest ++ f n,
        ap (λ t. flat_map f (ascending_below i) ++ t) (sym (append_assoc (f i) rest (f n)))
            ∙ sym (append_assoc (flat_map f (ascending_below i)) (f i ++ rest) (f n)) ∙ ap (λ t. t ++ f n) is ∙ sym (flat_map-suc f n),
      )
]
  where
    cases : (a b : ℕ) → a < suc b → (a ≡ b) ⊎ (a < b)
    cases a b l = grind arith

-- the lines below a number were put, and then the line of this number: the lines below the next one were put
pub put-next : (t t' t'' : Option (List ℕ)) (s s' s'' : SummedPage) (f : ℕ → List ℕ) (i : ℕ) → HasPut t t' s s' (flat_map f (ascending_below i))
    → HasPut t' t'' s' s'' (f i) → HasPut t t'' s s'' (flat_map f (ascending_below (i + 1)))
put-next t t' t'' s s' s'' f i one two =
    subst (HasPut t t'' s s'') (sym (flat_map-next f i)) (HasPut-trans t t' t'' s s' s'' (flat_map f (ascending_below i)) (f i) one two)

-- the lines below a number were put, and then a part of the line of this number: so a part of all lines was
pub part-next : (t t' t'' : Option (List ℕ)) (s s' : SummedPage) (f : ℕ → List ℕ) (i n : ℕ) → i < n → HasPut t t' s s' (flat_map f (ascending_below i))
    → PassesPart t' t'' s'.page (f i) → PassesPart t t'' s.page (flat_map f (ascending_below n))
part-next t t' t'' s s' f i n h one part =
    let (rest, is) = below-parts f i n h in
    subst (PassesPart t t'' s.page) is
    (PassesPart-later t t' t'' s.page s'.page (flat_map f (ascending_below i)) (f i ++ rest) one.passes
    (PassesPart-wider t' t'' s'.page (f i) rest part))

-- the texts of the first numbers of a list were put, and then that of the next one: the texts of one number more were put
pub put-item : (t t' t'' : Option (List ℕ)) (s s' s'' : SummedPage) (f : ℕ → List ℕ) (xs : List ℕ) (i : ℕ) → i < length xs
    → HasPut t t' s s' (flat_map f (take i xs)) → HasPut t' t'' s' s'' (f (get_or xs i 0)) → HasPut t t'' s s'' (flat_map f (take (i + 1) xs))
put-item t t' t'' s s' s'' f xs i h one two =
    let x : ℕ = get_or xs i 0 in
    subst (HasPut t t'' s s'') (sym (flat_map-turn f xs i x h (get_or_default xs i 0 x h)))
    (HasPut-trans t t' t'' s s' s'' (flat_map f (take i xs)) (f x) one two)

-- the texts of the first numbers of a list were put, and then a part of that of the next one: so a part of all texts was
pub part-item : (t t' t'' : Option (List ℕ)) (s s' : SummedPage) (f : ℕ → List ℕ) (xs : List ℕ) (i : ℕ) → i < length xs
    → HasPut t t' s s' (flat_map f (take i xs)) → PassesPart t' t'' s'.page (f (get_or xs i 0)) → PassesPart t t'' s.page (flat_map f xs)
part-item t t' t'' s s' f xs i h one part =
    let x : ℕ = get_or xs i 0 in
    subst (PassesPart t t'' s.page) (flat_map-parts f xs i x h (get_or_default xs i 0 x h))
    (PassesPart-later t t' t'' s.page s'.page (flat_map f (take i xs)) (f x ++ flat_map f (drop (suc i) xs)) one.passes
    (PassesPart-wider t' t'' s'.page (f x) (flat_map f (drop (suc i) xs)) part))
