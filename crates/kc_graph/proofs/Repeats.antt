-- Sorted numbers lose their repeats.
use Rattle.std.proofs.Common.{◌≡◌, ◌≤◌, ◌<◌, ◌+◌, ◌-◌, ℕ, Bool, true, ◌||◌, List, length, get_or, set, take, eqb, sym, ◌∙◌, ap, ap₂, inl, inr, arith}
use Rattle.std.proofs.Common.{length-set, eqb-true, get_or-set_other, get_or-set_same}
use Rattle.std.specs.List.Sorted.{IsStrictlyIncreasing, IsNonDecreasing}
use Rattle.std.specs.Cmp.{both_ways}
use Rattle.std.proofs.lemmas.Bool.{cases_eq, or_cases, or_left}
use Rattle.std.proofs.lemmas.List.{take_more, take_more_set, get_or-take, length-take-le}
use Rattle.kc_lists.specs.Lists.{member}
use Rattle.kc_lists.proofs.Counting.{member-push, member-get_or}

-- The first `kept` numbers ascend and are those of the first `i`, the last of them is the last of these, and the rest is as it was.
pub record Dropped (old new : List ℕ) (i kept : ℕ) : Type 0 where
  pub few : kept ≤ i
  pub some : 0 < i → 0 < kept
  pub ascends : IsStrictlyIncreasing (take kept new)
  pub same : (w : ℕ) → member w (take kept new) ≡ member w (take i old)
  pub last : 0 < i → get_or new (kept - 1) 0 ≡ get_or old (i - 1) 0
  pub rest : (k : ℕ) → i ≤ k → get_or new k 0 ≡ get_or old k 0

module _ (old new : List ℕ) (i kept : ℕ) (n : length new ≡ length old) (l : i < length old) (h : Dropped old new i kept) where
  -- what stands at the place that comes next is as it was
  here : get_or new i 0 ≡ get_or old i 0
  here = h.rest i (omega arith)

  -- the first numbers and one more have what they had and what stands at that place
  more-old : (w : ℕ) → member w (take (i + 1) old) ≡ (member w (take i old) || eqb w (get_or old i 0))
  more-old w = ap (member w) (take_more old i 0 l) ∙ member-push w (get_or old i 0) (take i old)

  -- A number that is greater than the last one kept is kept too.
  pub keep_one : (0 < kept → get_or new (kept - 1) 0 < get_or new i 0) → Dropped old (set new kept (get_or new i 0)) (i + 1) (kept + 1)
  keep_one greater =
      let y : ℕ = get_or new i 0 in
      let new' : List ℕ = set new kept y in
      let lk : kept < length new = omega (arith, h.few) in
      let short : length (take (kept + 1) new') ≡ kept + 1 = length-take-le (kept + 1) new' (omega (arith, length-set new kept y)) in
      record {
        few = omega (arith, h.few);
        some = λ _. omega arith;
        ascends = λ k lt.
            let first : get_or (take (kept + 1) new') k 0 ≡ get_or new' k 0 = get_or-take (kept + 1) new' k 0 (omega arith) in
            let second : get_or (take (kept + 1) new') (k + 1) 0 ≡ get_or new' (k + 1) 0 = get_or-take (kept + 1) new' (k + 1) 0 (omega (arith, short)) in
            let same_first : get_or new' k 0 ≡ get_or new k 0 = get_or-set_other new kept k y 0 (λ e. absurd (omega (arith, short))) in
            elim (cases_eq (k + 1) kept) [
              | inl e ↦
                  let last : get_or new' (k + 1) 0 ≡ y = ap (λ (j : ℕ). get_or new' j 0) e ∙ get_or-set_same new kept y 0 lk in
                  let before : get_or new k 0 ≡ get_or new (kept - 1) 0 = ap (λ (j : ℕ). get_or new j 0) (omega arith) in
                  omega (arith, first, second, same_first, last, before, greater (omega arith))
              | inr ne ↦
                  let inner : k + 1 < kept = omega (arith, short) in
                  let same_second : get_or new' (k + 1) 0 ≡ get_or new (k + 1) 0 = get_or-set_other new kept (k + 1) y 0 ne in
                  let old_first : get_or (take kept new) k 0 ≡ get_or new k 0 = get_or-take kept new k 0 (omega arith) in
                  let old_second : get_or (take kept new) (k + 1) 0 ≡ get_or new (k + 1) 0 = get_or-take kept new (k + 1) 0 inner in
                  let up = h.ascends k (omega (arith, length-take-le kept new (omega arith))) in
                  omega (arith, first, second, same_first, same_second, old_first, old_second, up)
            ];
        same = λ w.
            ap (member w) (take_more_set new kept y lk) ∙ member-push w y (take kept new)
            ∙ ap₂ (λ (s t : Bool). s || t) (h.same w) (ap (eqb w) here) ∙ sym (more-old w);
        last = λ _.
            let a : kept + 1 - 1 ≡ kept = omega arith in
            let b : i + 1 - 1 ≡ i = omega arith in
            ap (λ (j : ℕ). get_or new' j 0) a ∙ get_or-set_same new kept y 0 lk ∙ here ∙ ap (λ (j : ℕ). get_or old j 0) (sym b);
        rest = λ k le. get_or-set_other new kept k y 0 (λ e. absurd (omega (arith, h.few))) ∙ h.rest k (omega arith);
      }

  -- A number that is no greater is the last one kept once more.
  pub pass_one : IsNonDecreasing old → (kept ≡ 0 → ⊥) → (get_or new (kept - 1) 0 < get_or new i 0 → ⊥) → Dropped old new (i + 1) kept
  pass_one sorted some no_greater =
      let positive : 0 < i = omega (arith, h.few) in
      let last : get_or new (kept - 1) 0 ≡ get_or old (i - 1) 0 = h.last positive in
      let repeated : get_or old (i - 1) 0 ≡ get_or old i 0 = omega (arith, last, here, sorted (i - 1) i 0 (omega arith) l) in
      let length_i : length (take i old) ≡ i = length-take-le i old (omega arith) in
      let is_there : member (get_or old i 0) (take i old) ≡ true =
      ap (λ (y : ℕ). member y (take i old)) (sym repeated ∙ sym (get_or-take i old (i - 1) 0 (omega arith)))
      ∙ member-get_or (take i old) (i - 1) 0 (omega (arith, length_i)) in
      record {
        few = omega (arith, h.few);
        some = λ _. omega arith;
        ascends = h.ascends;
        same = λ w.
            h.same w
            ∙ both_ways _ _ (λ m. more-old w ∙ or_left (member w (take i old)) (eqb w (get_or old i 0)) m)
            (λ m. elim (or_cases (member w (take i old)) (eqb w (get_or old i 0)) (sym (more-old w) ∙ m)) [
              | inl t ↦ t
              | inr t ↦ ap (λ (y : ℕ). member y (take i old)) (eqb-true w (get_or old i 0) t) ∙ is_there
            ]);
        last = λ _.
            let b : i + 1 - 1 ≡ i = omega arith in
            last ∙ repeated ∙ ap (λ (j : ℕ). get_or old j 0) (sym b);
        rest = λ k le. h.rest k (omega arith);
      }
