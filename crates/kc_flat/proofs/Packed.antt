-- Sorted parts lose their repeats and move to the front.
use Rattle.std.proofs.Common.{◌≡◌, ◌≤◌, ◌<◌, ◌+◌, ◌-◌, ℕ, suc, zero, Bool, true, ◌||◌, List, [], ◌∷◌, ◌++◌, length, get_or, set, take, drop, eqb, refl}
use Rattle.std.proofs.Common.{sym, ◌∙◌, ap, ap₂, subst, inl, inr, arith, length-set, length-append, eqb-true, get_or-set_other, get_or-set_same}
use Rattle.std.specs.List.{between}
use Rattle.std.specs.List.Sorted.{IsStrictlyIncreasing, IsNonDecreasing}
use Rattle.std.specs.Cmp.{both_ways}
use Rattle.std.proofs.lemmas.Bool.{cases_eq, cases_lt, or_cases, or_left}
use Rattle.std.proofs.lemmas.List.{take-set-le, drop-set-lt, get_or_append_left, length-take-le}
use Rattle.std.proofs.lemmas.List.Edits.{between_more, length-between, get_or-between}
use Rattle.std.proofs.Math.Seq.{get_or-append_seam}
use Rattle.kc_lists.specs.Lists.{member}
use Rattle.kc_lists.proofs.Backs.{get_or-back}
use Rattle.kc_lists.proofs.Counting.{member-push, member-get_or}
use Rattle.kc_graph.specs.Blocks.{first_of}
use Rattle.kc_graph.proofs.Lying.{drop-later}
use Rattle.kc_graph.proofs.Scattering.{between-set_end}
use Rattle.kc_flat.specs.Parts.{part, Fills}
use Rattle.kc_flat.proofs.Cutting.{between-none, between-take, between-front, between-back}

-- ascending numbers ascend with a greater one behind them
increasing-push : (xs : List ℕ) (y : ℕ) → IsStrictlyIncreasing xs → (0 < length xs → get_or xs (length xs - 1) 0 < y) → IsStrictlyIncreasing (xs ++ y ∷ [])
increasing-push xs y h greater k l =
    let size : length (xs ++ y ∷ []) ≡ length xs + 1 = length-append xs (y ∷ []) in
    let first : get_or (xs ++ y ∷ []) k 0 ≡ get_or xs k 0 = get_or_append_left xs (y ∷ []) 0 k (omega (arith, size)) in
    elim (cases_lt (k + 1) (length xs)) [
      | inl less ↦ omega (arith, first, get_or_append_left xs (y ∷ []) 0 (k + 1) less, h k less)
      | inr ge ↦
          let end : k + 1 ≡ length xs = omega (arith, size) in
          let before : k ≡ length xs - 1 = omega arith in
          let last : get_or (xs ++ y ∷ []) (k + 1) 0 ≡ y = ap (λ (j : ℕ). get_or (xs ++ y ∷ []) j 0) end ∙ get_or-append_seam xs y [] 0 in
          omega (arith, first, last, greater (omega arith), ap (λ (j : ℕ). get_or xs j 0) before)
    ]

-- From `start` on are the different ones of the numbers from `from` to below `i`. What lies before, and from `i` on, is as it was.
pub record Packed (old new : List ℕ) (from i start end : ℕ) : Type 0 where
  pub begun : from ≤ i
  pub grown : start ≤ end
  pub slow : end + from ≤ i + start
  pub some : from < i → start < end
  pub ascends : IsStrictlyIncreasing (between start end new)
  pub same : (w : ℕ) → member w (between start end new) ≡ member w (between from i old)
  pub last : from < i → get_or new (end - 1) 0 ≡ get_or old (i - 1) 0
  pub before : take start new ≡ take start old
  pub after : drop i new ≡ drop i old

-- at first there is none
pub packed-none : (old : List ℕ) (from start : ℕ) → Packed old old from from start start
packed-none old from start = record {
  begun = omega arith;
  grown = omega arith;
  slow = omega arith;
  some = λ l. absurd (omega arith);
  ascends = subst IsStrictlyIncreasing (sym (between-none start old)) (λ k l. absurd (omega arith));
  same = λ w. ap (member w) (between-none start old) ∙ ap (member w) (sym (between-none from old));
  last = λ l. absurd (omega arith);
  before = refl;
  after = refl;
}

module _ (old new : List ℕ) (from i to start end : ℕ) (n : length new ≡ length old) (here : i < to) (within : to ≤ length old) (earlier : start ≤ from)
    (h : Packed old new from i start end) where
  -- what stands at the next place is as it was
  next : get_or new i 0 ≡ get_or old i 0
  next = get_or-back new old i h.after

  -- the numbers with the next one
  more-old : (w : ℕ) → member w (between from (i + 1) old) ≡ (member w (between from i old) || eqb w (get_or old i 0))
  more-old w = ap (member w) (between_more old from i 0 h.begun (omega arith)) ∙ member-push w (get_or old i 0) (between from i old)

  -- A number that is greater than the last one kept is kept too.
  pub keep_next : (start < end → get_or new (end - 1) 0 < get_or new i 0) → Packed old (set new end (get_or new i 0)) from (i + 1) start (end + 1)
  keep_next greater =
      let y : ℕ = get_or new i 0 in
      let room : end < length new = omega (arith, h.slow, h.begun, h.grown) in
      let longer : between start (end + 1) (set new end y) ≡ between start end new ++ y ∷ [] = between-set_end new start end y h.grown room in
      let size : length (between start end new) ≡ end - start = length-between new start end (omega arith) in
      record {
        begun = omega (arith, h.begun);
        grown = omega (arith, h.grown);
        slow = omega (arith, h.slow);
        some = λ _. omega (arith, h.grown);
        ascends =
            subst IsStrictlyIncreasing (sym longer)
            (increasing-push (between start end new) y h.ascends (λ some.
            let last : start + (length (between start end new) - 1) ≡ end - 1 = omega (arith, size) in
            omega (
              arith,
              get_or-between new start end (length (between start end new) - 1) 0 (omega (arith, size)),
              ap (λ (j : ℕ). get_or new j 0) last,
              greater (omega (arith, size)),
            )));
        same = λ w.
            ap (member w) longer ∙ member-push w y (between start end new) ∙ ap₂ (λ (s t : Bool). s || t) (h.same w) (ap (eqb w) next)
            ∙ sym (more-old w);
        last = λ _.
            let a : end + 1 - 1 ≡ end = omega arith in
            let b : i + 1 - 1 ≡ i = omega arith in
            ap (λ (j : ℕ). get_or (set new end y) j 0) a ∙ get_or-set_same new end y 0 room ∙ next ∙ ap (λ (j : ℕ). get_or old j 0) (sym b);
        before = take-set-le start new end y h.grown ∙ h.before;
        after = drop-set-lt (i + 1) new end y (omega (arith, h.slow)) ∙ drop-later new old i (i + 1) (omega arith) h.after;
      }

  -- A number that is no greater is the last one kept once more.
  pub pass_next : IsNonDecreasing (between from to old) → (end ≡ start → ⊥) → (get_or new (end - 1) 0 < get_or new i 0 → ⊥)
      → Packed old new from (i + 1) start end
  pass_next sorted some no_greater =
      let positive : from < i = omega (arith, h.slow, h.grown) in
      let last : get_or new (end - 1) 0 ≡ get_or old (i - 1) 0 = h.last positive in
      let a : from + (i - 1 - from) ≡ i - 1 = omega arith in
      let b : from + (i - from) ≡ i = omega arith in
      let at_last : get_or (between from to old) (i - 1 - from) 0 ≡ get_or old (i - 1) 0 =
      get_or-between old from to (i - 1 - from) 0 (omega arith) ∙ ap (λ (j : ℕ). get_or old j 0) a in
      let at_next : get_or (between from to old) (i - from) 0 ≡ get_or old i 0 =
      get_or-between old from to (i - from) 0 (omega arith) ∙ ap (λ (j : ℕ). get_or old j 0) b in
      let rises : get_or (between from to old) (i - 1 - from) 0 ≤ get_or (between from to old) (i - from) 0 =
      sorted (i - 1 - from) (i - from) 0 (omega arith) (omega (arith, length-between old from to within)) in
      let repeated : get_or old (i - 1) 0 ≡ get_or old i 0 = omega (arith, last, next, at_last, at_next, rises) in
      let a' : from + (i - 1 - from) < i = omega arith in
      let is_there : member (get_or old i 0) (between from i old) ≡ true =
      ap (λ (y : ℕ). member y (between from i old)) (sym repeated ∙ sym (get_or-between old from i (i - 1 - from) 0 a' ∙ ap (λ (j : ℕ). get_or old j 0) a))
      ∙ member-get_or (between from i old) (i - 1 - from) 0 (omega (arith, length-between old from i (omega arith))) in
      record {
        begun = omega (arith, h.begun);
        grown = h.grown;
        slow = omega (arith, h.slow);
        some = λ _. omega (arith, h.grown);
        ascends = h.ascends;
        same = λ w.
            h.same w
            ∙ both_ways _ _ (λ m. more-old w ∙ or_left (member w (between from i old)) (eqb w (get_or old i 0)) m)
            (λ m. elim (or_cases (member w (between from i old)) (eqb w (get_or old i 0)) (sym (more-old w) ∙ m)) [
              | inl t ↦ t
              | inr t ↦ ap (λ (y : ℕ). member y (between from i old)) (eqb-true w (get_or old i 0) t) ∙ is_there
            ]);
        last = λ _.
            let c : i + 1 - 1 ≡ i = omega arith in
            last ∙ repeated ∙ ap (λ (j : ℕ). get_or old j 0) (sym c);
        before = h.before;
        after = drop-later new old i (i + 1) (omega arith) h.after;
      }

-- The first `i` parts lie packed in the front of the block, and the others are as they were.
pub record PackedTo (old_ends old ends block : List ℕ) (i from kept : ℕ) : Type 0 where
  pub count : length ends ≡ length old_ends
  pub size : length block ≡ length old
  pub begins : from ≡ first_of old_ends i
  pub ended : kept ≡ first_of ends i
  pub earlier : kept ≤ from
  pub ordered : (v : ℕ) → v < i → first_of ends v ≤ get_or ends v 0
  pub within : (v : ℕ) → v < i → get_or ends v 0 ≤ kept
  pub ascends : (v : ℕ) → v < i → IsStrictlyIncreasing (part ends block v)
  pub same : (v w : ℕ) → v < i → member w (part ends block v) ≡ member w (part old_ends old v)
  pub later : (v : ℕ) → i ≤ v → get_or ends v 0 ≡ get_or old_ends v 0
  pub rest : drop from block ≡ drop from old

-- at first no part is packed
pub packed-to_none : (ends block : List ℕ) → PackedTo ends block ends block 0 0 0
packed-to_none ends block = record {
  count = refl;
  size = refl;
  begins = refl;
  ended = refl;
  earlier = omega arith;
  ordered = λ v l. absurd (omega arith);
  within = λ v l. absurd (omega arith);
  ascends = λ v l. absurd (omega arith);
  same = λ v w l. absurd (omega arith);
  later = λ v l. refl;
  rest = refl;
}

-- One part more is packed.
module _ (old_ends old ends block : List ℕ) (i from to kept : ℕ) (block' : List ℕ) (kept' : ℕ) (here : i < length old_ends) (is : to ≡ get_or old_ends i 0)
    (ordered : first_of old_ends i ≤ get_or old_ends i 0) (h : PackedTo old_ends old ends block i from kept)
    (start : kept ≤ kept') (end : kept' ≤ to) (size : length block' ≡ length block) (before : take kept block' ≡ take kept block)
    (after : drop to block' ≡ drop to block) (up : IsStrictlyIncreasing (between kept kept' block'))
    (has : (w : ℕ) → member w (between kept kept' block') ≡ member w (between from to block)) where
  -- the ends with that of the part
  ends' : List ℕ
  ends' = set ends i kept'

  -- an earlier part begins where it began, and so does this one
  first-same : (v : ℕ) → v ≤ i → first_of (set ends i kept') v ≡ first_of ends v
  first-same zero l = refl
  first-same (suc v) l = get_or-set_other ends i v kept' 0 (λ e. absurd (omega arith))

  -- an earlier part ends where it ended
  end-same : (v : ℕ) → v < i → get_or (set ends i kept') v 0 ≡ get_or ends v 0
  end-same v l = get_or-set_other ends i v kept' 0 (λ e. absurd (omega arith))

  -- this one ends where it is packed to
  end-here : get_or (set ends i kept') i 0 ≡ kept'
  end-here = get_or-set_same ends i kept' 0 (omega (arith, h.count))

  -- an earlier part has what it had
  part-same : (v : ℕ) → v < i → part (set ends i kept') block' v ≡ part ends block v
  part-same v l =
      ap₂ (λ (a b : ℕ). between a b block') (first-same v (omega arith)) (end-same v l)
      ∙ between-front (first_of ends v) (get_or ends v 0) kept block' block (h.within v l) before

  -- this one has what was packed
  part-here : part (set ends i kept') block' i ≡ between kept kept' block'
  part-here = ap₂ (λ (a b : ℕ). between a b block') (first-same i (omega arith) ∙ sym h.ended) end-here

  -- which are the numbers that it had
  part-old : between from to block ≡ part old_ends old i
  part-old = between-back from to from block old (omega arith) h.rest ∙ ap₂ (λ (a b : ℕ). between a b old) h.begins is

  pub packed-to_more : PackedTo old_ends old (set ends i kept') block' (i + 1) to kept'
  packed-to_more =
      let next : suc i ≡ i + 1 = omega arith in
      record {
        count = length-set ends i kept' ∙ h.count;
        size = size ∙ h.size;
        begins = is ∙ ap (first_of old_ends) next;
        ended = sym (ap (first_of (set ends i kept')) (sym next) ∙ end-here);
        earlier = end;
        ordered = λ v l. elim (cases_eq v i) [
          | inl e ↦
              let low : first_of (set ends i kept') i ≤ get_or (set ends i kept') i 0 = omega (arith, first-same i (omega arith), end-here, h.ended) in
              subst (λ (k : ℕ). first_of (set ends i kept') k ≤ get_or (set ends i kept') k 0) (sym e) low
          | inr ne ↦ omega (arith, first-same v (omega arith), end-same v (omega arith), h.ordered v (omega arith))
        ];
        within = λ v l. elim (cases_eq v i) [
          | inl e ↦ omega (arith, ap (λ (k : ℕ). get_or (set ends i kept') k 0) e, end-here)
          | inr ne ↦ omega (arith, end-same v (omega arith), h.within v (omega arith))
        ];
        ascends = λ v l. elim (cases_eq v i) [
          | inl e ↦ subst (λ (k : ℕ). IsStrictlyIncreasing (part (set ends i kept') block' k)) (sym e) (subst IsStrictlyIncreasing (sym part-here) up)
          | inr ne ↦ subst IsStrictlyIncreasing (sym (part-same v (omega arith))) (h.ascends v (omega arith))
        ];
        same = λ v w l. elim (cases_eq v i) [
          | inl e ↦
              ap (λ (k : ℕ). member w (part (set ends i kept') block' k)) e ∙ ap (member w) part-here ∙ has w ∙ ap (member w) part-old
              ∙ ap (λ (k : ℕ). member w (part old_ends old k)) (sym e)
          | inr ne ↦ ap (member w) (part-same v (omega arith)) ∙ h.same v w (omega arith)
        ];
        later = λ v l. get_or-set_other ends i v kept' 0 (λ e. absurd (omega arith)) ∙ h.later v (omega arith);
        rest = after ∙ drop-later block old from to (omega (arith, h.begins, is, ordered)) h.rest;
      }

-- Once all parts are packed, they fill the front.
module _ (old_ends old ends block : List ℕ) (from kept : ℕ) (h : PackedTo old_ends old ends block (length old_ends) from kept) (l : kept ≤ length block) where
  -- in the front each part is as it is in the block
  pub part-front : (v : ℕ) → v < length ends → part ends (take kept block) v ≡ part ends block v
  part-front v lv = between-take (first_of ends v) (get_or ends v 0) kept block (h.within v (omega (arith, lv, h.count)))

  -- they fill it
  pub packed-fills : Fills ends (take kept block)
  packed-fills = record {
    ordered = λ v lv. h.ordered v (omega (arith, lv, h.count));
    whole = ap (first_of ends) h.count ∙ sym h.ended ∙ sym (length-take-le kept block l);
  }
