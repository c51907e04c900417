-- Sizes and free numbers, as items come and go.
use Rattle.std.proofs.Common.{◌≡◌, ◌≢◌, ℕ, suc, ◌+◌, ◌-◌, ◌<◌, ◌≤◌, true, false, List, [], ◌∷◌, ◌++◌, length, get_or, set, take, drop, ◌/◌, sym, ◌∙◌}
use Rattle.std.proofs.Common.{ap, subst, inl, inr, arith}
use Rattle.std.proofs.lemmas.Bool.{cases_eq, true≢false, false≢true, false_from_ne_true}
use Rattle.std.proofs.lemmas.List.{length-set, get_or-set_same, get_or-set_other, take_more, take_more_set, length-take-le, get_or_read, take_all}
use Rattle.std.proofs.lemmas.List.{drop_all, append-nil, get_or-take}
use Rattle.kc_lists.specs.Lists.{member, Distinct}
use Rattle.kc_lists.proofs.Members.{member-head, member-cases, member-append, member-append_left, member-append_right, not_member-append}
use Rattle.kc_lists.proofs.Members.{Distinct-cut, below_bound}
use Rattle.kc_list.specs.Tally.{IsTally, opening_count}
use Rattle.kc_list.proofs.Groupings.{index_of}
use Rattle.kc_list.specs.declared.limits.TheConstants.{GROUP_ITEMS, OPENING_ITEMS, HALF_ITEMS}
use Rattle.kc_lists.proofs.Counting.{Distinct-push, member-get_or}
use Rattle.kc_lists.proofs.Shared.{some_length}

-- a group in use is not among the free numbers, and there is room for it
pub room_for : (sizes free : List ℕ) (g : ℕ) → IsTally sizes free → 0 < g → g < length sizes → 0 < get_or sizes g 0
    → (length free + 2 ≤ length sizes) × (member g free ≡ false)
room_for sizes free g t low l used =
    let out : member g free ≡ false = false_from_ne_true (member g free) (λ m. let w = t.within g m in let z = w.2 in absurd (omega arith)) in
    let zero-out : member 0 (g ∷ free) ≡ false =
    false_from_ne_true (member 0 (g ∷ free))
    (λ m. elim (member-cases 0 g free m) [ inl e ↦ absurd (omega arith) | inr k ↦ absurd (let w = (t.within 0 k).0 in omega arith) ]) in
    let below : (x : ℕ) → member x (0 ∷ g ∷ free) ≡ true → x < length sizes = λ x m. elim (member-cases x 0 (g ∷ free) m) [
      | inl e ↦ omega arith
      | inr k ↦ elim (member-cases x g free k) [ inl e ↦ omega arith | inr k' ↦ (t.within x k').1 ]
    ] in
    (omega (arith, below_bound (length sizes) (0 ∷ g ∷ free) (zero-out, (out, t.distinct)) below), out)

-- a group that its last item leaves comes to the free numbers
pub tally_leave_last : (sizes free : List ℕ) (g : ℕ) → IsTally sizes free → 0 < g → g < length sizes → get_or sizes g 0 ≡ 1
    → IsTally (set sizes g (get_or sizes g 0 - 1)) (free ++ g ∷ [])
tally_leave_last sizes free g t low l used =
    let r = room_for sizes free g t low l (omega arith) in
    record {
      distinct = Distinct-push free g t.distinct r.1;
      within = λ h m. elim (member-append h free (g ∷ []) m) [
        | inl k ↦ let w = t.within h k in let ne : h ≢ g =
            λ e. (let z : get_or sizes h 0 ≡ get_or sizes g 0 = ap (λ k. get_or sizes k 0) e in let zero-is = w.2 in absurd (omega arith)) in
            (w.0, omega (arith, w.1, length-set sizes g (get_or sizes g 0 - 1)), get_or-set_other sizes g h (get_or sizes g 0 - 1) 0 ne ∙ w.2)
        | inr k ↦ elim (member-cases h g [] k) [
          | inl e ↦ (
            omega arith,
            omega (arith, length-set sizes g (get_or sizes g 0 - 1)),
            ap (λ k. get_or (set sizes g (get_or sizes g 0 - 1)) k 0) e
                ∙ (get_or-set_same sizes g (get_or sizes g 0 - 1) 0 l ∙ omega arith),
          )
          | inr none ↦ absurd (false≢true none)
        ]
      ];
      all = λ h low' high z. elim (cases_eq h g) [
        | inl e ↦ member-append_right h free (g ∷ []) (ap (λ k. member k (g ∷ [])) e ∙ member-head g [])
        | inr ne ↦ member-append_left h free (g ∷ [])
            (t.all h low' (omega (arith, high, length-set sizes g (get_or sizes g 0 - 1))) (sym (get_or-set_other sizes g h (get_or sizes g 0 - 1) 0 ne) ∙ z))
      ];
    }

-- a full group is cut in two
pub tally_split : (sizes free : List ℕ) (g h : ℕ) → IsTally sizes (free ++ h ∷ []) → g < length sizes → get_or sizes g 0 ≡ GROUP_ITEMS
    → IsTally (set (set sizes g HALF_ITEMS) h HALF_ITEMS) free × (0 < h) × (h < length sizes) × (get_or sizes h 0 ≡ 0)
tally_split sizes free g h t l full =
    let h-in : member h (free ++ h ∷ []) ≡ true = member-append_right h free (h ∷ []) (member-head h []) in
    let w = t.within h h-in in
    let apart = Distinct-cut h free [] t.distinct in
    let len : length (set (set sizes g HALF_ITEMS) h HALF_ITEMS) ≡ length sizes = length-set (set sizes g HALF_ITEMS) h HALF_ITEMS
    ∙ length-set sizes g HALF_ITEMS in
    let other : (k : ℕ) → k ≢ g → k ≢ h → get_or (set (set sizes g HALF_ITEMS) h HALF_ITEMS) k 0 ≡ get_or sizes k 0 =
    λ k n m. get_or-set_other (set sizes g HALF_ITEMS) h k HALF_ITEMS 0 m ∙ get_or-set_other sizes g k HALF_ITEMS 0 n in (
      record {
        distinct = drop_end free h t.distinct;
        within = λ k m.
            let u = t.within k (member-append_left k free (h ∷ []) m) in
            let n : k ≢ g = λ e. (let z : get_or sizes k 0 ≡ get_or sizes g 0 = ap (λ i. get_or sizes i 0) e in let zero-is = u.2 in absurd (omega arith)) in
            let n' : k ≢ h = λ e. true≢false (sym m ∙ (ap (λ z. member z free) e ∙ apart.0)) in
            (u.0, omega (arith, u.1, len), other k n n' ∙ u.2);
        all = λ k low high z.
            elim (cases_eq k h) [
              | inl e ↦ absurd (let s = get_or-set_same (set sizes g HALF_ITEMS) h HALF_ITEMS 0 (omega (arith, w.1, length-set sizes g HALF_ITEMS)) in
                  let z' = ap (λ i. get_or (set (set sizes g HALF_ITEMS) h HALF_ITEMS) i 0) e in omega (arith, s, z, z'))
              | inr n' ↦ elim (cases_eq k g) [
                | inl e ↦ absurd (let n'' : g ≢ h = λ q. n' (e ∙ q) in let s = get_or-set_other (set sizes g HALF_ITEMS) h g HALF_ITEMS 0 n''
                    ∙ get_or-set_same sizes g HALF_ITEMS 0 l in let z' = ap (λ i. get_or (set (set sizes g HALF_ITEMS) h HALF_ITEMS) i 0) e in
                    omega (arith, s, z, z'))
                | inr n ↦ elim (member-append k free (h ∷ []) (t.all k low (omega (arith, high, len)) (sym (other k n n') ∙ z))) [
                  | inl m ↦ m
                  | inr m ↦ elim (member-cases k h [] m) [ inl e ↦ absurd (n' e) | inr none ↦ absurd (false≢true none) ]
                ]
              ]
            ];
      },
      w.0,
      w.1,
      w.2,
    )
  where
    drop_end : (xs : List ℕ) (x : ℕ) → Distinct (xs ++ x ∷ []) → Distinct xs
    drop_end [] x d = tt
    drop_end (y ∷ ys) x d = ((not_member-append y ys (x ∷ []) d.0).0, drop_end ys x d.1)

-- the sizes and free numbers, as the program keeps them, after the last item leaves a group
pub record LeaveFacts (sizes free : List ℕ) (count g size : ℕ) : Type 0 where
  pub room : count < length free
  pub tally : IsTally (set sizes g (size - 1)) (take (count + 1) (set free count g))
  pub more : count + 1 ≤ length (set free count g)
  pub lengths : length (set free count g) + 1 ≡ length (set sizes g (size - 1))

-- what the program does as the last item leaves a group keeps sizes and free numbers
pub leave_facts : (sizes free old : List ℕ) (count g size : ℕ) → IsTally sizes (take count free) → count ≤ length free → length free + 1 ≡ length sizes
    → sizes ≡ old → 0 < g → g < length old → size ≡ get_or sizes g size → size ≡ 1 → LeaveFacts sizes free count g size
leave_facts sizes free old count g size t c l is low high read one =
    let high' : g < length sizes = omega (arith, ap length is) in
    let read' : size ≡ get_or sizes g 0 = get_or_read sizes g size high' read 0 in
    let r = room_for sizes (take count free) g t low high' (omega arith) in
    let room : count < length free = omega (arith, r.0, length-take-le count free c) in
    record {
      room = room;
      tally = rw (take_more_set free count g room)
          (subst (λ z. IsTally (set sizes g (z - 1)) (take count free ++ g ∷ [])) (sym read')
          (tally_leave_last sizes (take count free) g t low high' (sym read' ∙ one)));
      more = omega (arith, room, length-set free count g);
      lengths = omega (arith, l, length-set free count g, length-set sizes g (size - 1));
    }

-- the sizes and free numbers, as the program keeps them, after a full group is cut in two
pub record SplitFacts (sizes free old : List ℕ) (count g fresh : ℕ) : Type 0 where
  pub some : 0 < count
  pub tally : IsTally (set (set sizes g HALF_ITEMS) fresh HALF_ITEMS) (take (count - 1) free)
  pub low : 0 < fresh
  pub within : fresh < length sizes
  pub within_old : fresh < length old
  pub was_free : get_or old fresh 0 ≡ 0
  pub lengths : length free + 1 ≡ length (set (set sizes g HALF_ITEMS) fresh HALF_ITEMS)

-- where some group has size 0, there is a free number
pub some_count : (sizes free old : List ℕ) (count : ℕ) → IsTally sizes (take count free) → count ≤ length free → sizes ≡ old
    → (h : ℕ) × (0 < h) × (h < length old) × (get_or old h 0 ≡ 0) → 0 < count
some_count sizes free old count t c is spare =
    let m = t.all spare.0 spare.1 (omega (arith, spare.2, ap length is)) (ap (λ zs. get_or zs spare.0 0) is ∙ spare.3) in
    omega (arith, some_length spare.0 (take count free) m, length-take-le count free c)

-- what the program does as a full group is cut in two keeps sizes and free numbers
pub split_facts : (sizes free old : List ℕ) (count g fresh : ℕ) → IsTally sizes (take count free) → count ≤ length free → length free + 1 ≡ length sizes
    → sizes ≡ old → g < length old → get_or old g 0 ≡ GROUP_ITEMS → (h : ℕ) × (0 < h) × (h < length old) × (get_or old h 0 ≡ 0)
    → fresh ≡ get_or free (count - 1) fresh → SplitFacts sizes free old count g fresh
split_facts sizes free old count g fresh t c l is g-in full spare read =
    let some : 0 < count = some_count sizes free old count t c is spare in
    let back : count - 1 + 1 ≡ count = omega arith in
    let read' : fresh ≡ get_or free (count - 1) 0 = get_or_read free (count - 1) fresh (omega arith) read 0 in
    let parts : take count free ≡ take (count - 1) free ++ fresh ∷ [] = ap (λ k. take k free) (sym back)
    ∙ (take_more free (count - 1) 0 (omega arith) ∙ ap (λ z. take (count - 1) free ++ z ∷ []) (sym read')) in
    let s = tally_split sizes (take (count - 1) free) g fresh (subst (IsTally sizes) parts t) (omega (arith, ap length is))
    (ap (λ zs. get_or zs g 0) is ∙ full) in
    record {
      some = some;
      tally = s.0;
      low = s.1;
      within = s.2;
      within_old = omega (arith, s.2, ap length is);
      was_free = ap (λ zs. get_or zs fresh 0) (sym is) ∙ s.3;
      lengths = omega (arith, l, length-set (set sizes g HALF_ITEMS) fresh HALF_ITEMS, length-set sizes g HALF_ITEMS);
    }

-- a list that is written over all of another, read at its length, is the list
pub whole_back : (xs ys : List ℕ) (n : ℕ) → n ≡ length ys → length xs ≡ length ys → take n (xs ++ drop (length xs) ys) ≡ xs
whole_back xs ys n e l = ap (λ zs. take n (xs ++ zs)) (drop_all (length xs) ys (omega arith)) ∙ (ap (take n) (append-nil xs) ∙ take_all n xs (omega arith))

-- a list with different numbers at any two places is distinct
pub Distinct-from : (xs : List ℕ) → ((i j : ℕ) → i < j → j < length xs → get_or xs i 0 ≢ get_or xs j 0) → Distinct xs
Distinct-from [] f = tt
Distinct-from (x ∷ xs) f = (
  false_from_ne_true (member x xs) (λ m. let r = index_of x xs m in absurd (f 0 (suc r.0) (omega arith) (omega (arith, r.1)) (sym r.2))),
  Distinct-from xs (λ i j l k. f (suc i) (suc j) (omega arith) (omega arith)),
)

-- what stands at a place of a front stands there in the list
taken_at : (xs : List ℕ) (n i : ℕ) → i < n → n ≤ length xs → get_or (take n xs) i 0 ≡ get_or xs i 0
taken_at xs n i l k = get_or-take n xs i 0 l

-- at the opening the free numbers are those above the groups that have items
pub opened_tally : (sizes free : List ℕ) (n len used : ℕ) → length sizes ≡ n + 2 → length free ≡ n + 1 → len ≤ n
    → used ≡ (len + (OPENING_ITEMS - 1)) / OPENING_ITEMS → ((g : ℕ) → 0 < g → g < length sizes → get_or sizes g 0 ≡ opening_count len g)
    → ((i : ℕ) → i < length free → get_or free i 0 ≡ length free - i) → IsTally sizes (take (n + 1 - used) free)
opened_tally sizes free n len used s-len f-len le used-is sized listed =
    let count = n + 1 - used in
    let t-len : length (take (n + 1 - used) free) ≡ n + 1 - used = length-take-le (n + 1 - used) free (omega arith) in
    let at : (i : ℕ) → i < n + 1 - used → get_or (take (n + 1 - used) free) i 0 ≡ n + 1 - i = λ i l. taken_at free (n + 1 - used) i l (omega arith)
    ∙ (listed i (omega arith) ∙ omega arith) in
    record {
      distinct = Distinct-from (take (n + 1 - used) free) (λ i j l k e. let a = at i (omega arith) in let b = at j (omega arith) in absurd (omega arith));
      within = λ h m.
          let r = index_of h (take (n + 1 - used) free) m in
          let l : r.0 < n + 1 - used = omega (arith, r.1) in
          let is : h ≡ n + 1 - r.0 = sym r.2 ∙ at r.0 l in
          let low : 0 < h = omega arith in
          let high : h < length sizes = omega arith in
          (low, high, sized h low high ∙ omega arith);
      all = λ h low high z.
          let none : opening_count len h ≡ 0 = sym (sized h low high) ∙ z in
          let l : n + 1 - h < n + 1 - used = omega arith in
          ap (λ k. member k (take (n + 1 - used) free)) (sym (at (n + 1 - h) l ∙ omega arith))
          ∙ member-get_or (take (n + 1 - used) free) (n + 1 - h) 0 (omega arith);
    }
