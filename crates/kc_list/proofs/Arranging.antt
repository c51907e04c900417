-- A group is made ready to take an item.
use Rattle.std.proofs.Common.{◌≡◌, ◌≢◌, ℕ, suc, zero, ◌+◌, ◌<◌, ◌≤◌, true, List, [], ◌∷◌, length, get_or, set, refl, sym, ◌∙◌, ap, ◌⊎◌, inl, inr, arith}
use Rattle.std.proofs.lemmas.Bool.{cases_eq, cases_lt, cases_Bool, eq-eqb, ne_eqb, false≢true, true≢false}
use Rattle.std.proofs.lemmas.List.{length-set, get_or-set_same, get_or-set_other}
use Rattle.kc_words.specs.ItemWord.{item_of}
use Rattle.kc_lists.specs.Lists.{member}
use Rattle.kc_lists.proofs.Members.{member-head, member-tail, member-cases, below_bound}
use Rattle.kc_words.specs.Order.{labels}
use Rattle.kc_list.specs.Places.{WordsKeepList, Free, HasGap, NotOf, runs, size_of}
use Rattle.kc_list.specs.Tally.{AreGroupSizes, KeepsGroup}
use Rattle.kc_list.specs.Sheets.{version}
use Rattle.kc_list.proofs.Counts.{numbers-covered, runs_short, size-agree}
use Rattle.kc_list.proofs.Toplabels.{item_runs}
use Rattle.kc_list.specs.declared.limits.TheConstants.{HALF_ITEMS}

-- where a group has size 0, no item is in it
pub size_zero : (f : ℕ → ℕ) (h : ℕ) (xs : List ℕ) (y : ℕ) → size_of f h xs ≡ 0 → member y xs ≡ true → f y ≡ h → ⊥
size_zero f h [] y e m is = false≢true m
size_zero f h (x ∷ xs) y e m is = elim (member-cases y x xs m) [
  | inl q ↦ (let one = eq-eqb (f x) h (ap f (sym q) ∙ is) in absurd (let e' = rw one at e in omega arith))
  | inr k ↦ size_zero f h xs y (omega arith) k is
]

-- a group whose size is not 0 has an item
used_group : (f : ℕ → ℕ) (h : ℕ) (xs : List ℕ) → (size_of f h xs ≡ 0 → ⊥) → (y : ℕ) × (member y xs ≡ true) × (f y ≡ h)
used_group f h [] ne = absurd (ne refl)
used_group f h (x ∷ xs) ne = elim (cases_eq (f x) h) [
  | inl e ↦ (x, member-head x xs, e)
  | inr no-h ↦
      let rest : size_of f h xs ≡ 0 → ⊥ = λ z. ne (rw (ne_eqb (f x) h no-h) (omega (arith, z))) in
      let r = used_group f h xs rest in
      (r.0, member-tail r.0 x xs r.1, r.2)
]

-- a group that is kept with size 0 is free
pub free_group : (n : ℕ) (ws list sizes : List ℕ) (h : ℕ) → AreGroupSizes n ws list sizes → 0 < h → h ≤ n + 1 → get_or sizes h 0 ≡ 0
    → Free n (labels n ws) list h
free_group n ws list sizes h t low high z =
    record { low = low; high = high; unused = λ y m e. size_zero (labels n ws).group h list y (sym (t.counts h low high) ∙ z) m e }

-- of the groups from 1 to k one has size 0, or none has
search_free : (sizes : List ℕ) (k : ℕ) → ((h : ℕ) × (0 < h) × (h ≤ k) × (get_or sizes h 0 ≡ 0)) ⊎ ((h : ℕ) → 0 < h → h ≤ k → get_or sizes h 0 ≢ 0)
search_free sizes zero = inr (λ h low high. absurd (omega arith))
search_free sizes (suc k) = elim (search_free sizes k) [
  | inl r ↦ inl (r.0, r.1, omega (arith, r.2), r.3)
  | inr f ↦ elim (cases_eq (get_or sizes (suc k) 0) 0) [
    | inl z ↦ inl (suc k, omega arith, omega arith, z)
    | inr ne ↦ inr (λ h low high. elim (cases_eq h (suc k)) [ inl e ↦ (λ z. ne (ap (λ i. get_or sizes i 0) (sym e) ∙ z)) | inr less ↦ f h low (omega arith) ])
  ]
]

-- of the n + 1 groups of a list one has size 0
pub spare_group : (n : ℕ) (ws list sizes : List ℕ) → WordsKeepList n ws list → AreGroupSizes n ws list sizes
    → (h : ℕ) × (0 < h) × (h < length sizes) × (get_or sizes h 0 ≡ 0)
spare_group n ws list sizes s t = elim (search_free sizes (n + 1)) [
  | inl r ↦ (r.0, r.1, omega (arith, r.2, t.length_is), r.3)
  | inr f ↦
      let all : n + 1 ≤ length (runs (labels n ws).group list) = numbers-covered (n + 1) (runs (labels n ws).group list) (λ h low high.
      let u = used_group (labels n ws).group h list (λ z. f h low high (t.counts h low high ∙ z)) in
      ap (λ g. member g (runs (labels n ws).group list)) (sym u.2) ∙ item_runs (labels n ws).group u.0 list u.1) in
      absurd (omega (arith, all, runs_short (labels n ws).group list, below_bound n list s.distinct (λ x m. (s.inside x m).below)))
]

-- sizes where the groups of all items stay
pub tally_agree : (n : ℕ) (ws vs list sizes : List ℕ) → ((y : ℕ) → member y list ≡ true → (labels n vs).group y ≡ (labels n ws).group y)
    → AreGroupSizes n ws list sizes → AreGroupSizes n vs list sizes
tally_agree n ws vs list sizes f t =
    record {
      length_is = t.length_is;
      counts = λ g low high. t.counts g low high ∙ sym (size-agree (labels n ws).group (labels n vs).group g list f);
      most =
          t.most;
    }

-- where the words of items stay, an item keeps its group
pub items_agree : (n : ℕ) (ws vs list : List ℕ) (y : ℕ) → WordsKeepList n ws list → ((w : ℕ) → w ≤ n → get_or vs w 0 ≡ get_or ws w 0) → member y list ≡ true
    → (labels n vs).group y ≡ (labels n ws).group y
items_agree n ws vs list y s f m = let below : y < n = (s.inside y m).below in ap (λ z. (item_of z).group) (f (1 + y) (omega arith))

-- sizes where a full group is cut in two
pub tally_halved : (n : ℕ) (ws vs list sizes : List ℕ) (g h : ℕ) → AreGroupSizes n ws list sizes → g ≤ n + 1 → h ≤ n + 1
    → size_of (labels n vs).group g list ≡ HALF_ITEMS → size_of (labels n vs).group h list ≡ HALF_ITEMS
    → ((k : ℕ) → k ≢ g → k ≢ h → size_of (labels n vs).group k list ≡ size_of (labels n ws).group k list)
    → AreGroupSizes n vs list (set (set sizes g HALF_ITEMS) h HALF_ITEMS)
tally_halved n ws vs list sizes g h t g-high h-high left fresh others =
    let at-h : get_or (set (set sizes g HALF_ITEMS) h HALF_ITEMS) h 0 ≡ HALF_ITEMS =
    get_or-set_same (set sizes g HALF_ITEMS) h HALF_ITEMS 0 (omega (arith, length-set sizes g HALF_ITEMS, t.length_is)) in
    let at-g : g ≢ h → get_or (set (set sizes g HALF_ITEMS) h HALF_ITEMS) g 0 ≡ HALF_ITEMS =
    λ ne. get_or-set_other (set sizes g HALF_ITEMS) h g HALF_ITEMS 0 ne ∙ get_or-set_same sizes g HALF_ITEMS 0 (omega (arith, t.length_is)) in
    let at : (k : ℕ) → k ≢ g → k ≢ h → get_or (set (set sizes g HALF_ITEMS) h HALF_ITEMS) k 0 ≡ get_or sizes k 0 =
    λ k n-g n-h. get_or-set_other (set sizes g HALF_ITEMS) h k HALF_ITEMS 0 n-h ∙ get_or-set_other sizes g k HALF_ITEMS 0 n-g in
    record {
      length_is = length-set (set sizes g HALF_ITEMS) h HALF_ITEMS ∙ (length-set sizes g HALF_ITEMS ∙ t.length_is);
      counts = λ k low high. elim (cases_eq k h) [
        | inl e ↦ ap (λ i. get_or (set (set sizes g HALF_ITEMS) h HALF_ITEMS) i 0) e ∙ (at-h ∙ sym (ap (λ i. size_of (labels n vs).group i list) e ∙ fresh))
        | inr n-h ↦ elim (cases_eq k g) [
          | inl e ↦ ap (λ i. get_or (set (set sizes g HALF_ITEMS) h HALF_ITEMS) i 0) e
              ∙ (at-g (λ q. n-h (e ∙ q)) ∙ sym (ap (λ i. size_of (labels n vs).group i list) e ∙ left))
          | inr n-g ↦ at k n-g n-h ∙ (t.counts k low high ∙ sym (others k n-g n-h))
        ]
      ];
      most = λ k. elim (cases_eq k h) [
        | inl e ↦ omega (arith, ap (λ i. get_or (set (set sizes g HALF_ITEMS) h HALF_ITEMS) i 0) e, at-h)
        | inr n-h ↦ elim (cases_eq k g) [
          | inl e ↦ omega (arith, ap (λ i. get_or (set (set sizes g HALF_ITEMS) h HALF_ITEMS) i 0) e, at-g (λ q. n-h (e ∙ q)))
          | inr n-g ↦ omega (arith, at k n-g n-h, t.most k)
        ]
      ];
    }

-- no word is stored more than once: first those of groups, then those of the fresh group and its items
pub once_split : (n : ℕ) (ws qs vs list : List ℕ) (h : ℕ) → ((w : ℕ) → w ≤ n → get_or qs w 0 ≡ get_or ws w 0) → get_or qs (n + h) 0 ≡ get_or ws (n + h) 0
    → ((w : ℕ) → version qs w ≤ version ws w + 1) → ((w : ℕ) → version vs w ≤ version qs w + 1)
    → ((w : ℕ) → w ≢ n + h → NotOf (labels n vs) list h w → get_or vs w 0 ≡ get_or qs w 0) → WordsKeepList n vs list → (w : ℕ) → version vs w ≤ version ws w + 1
once_split n ws qs vs list h items unused first second only s w = elim (cases_lt n w) [
  | inr low ↦ omega (arith, second w, ap (λ z. (item_of z).version) (items w low))
  | inl high ↦ elim (cases_eq w (n + h)) [
    | inl e ↦ omega (arith, second w, ap (λ z. (item_of z).version) (ap (λ i. get_or qs i 0) e ∙ (unused ∙ ap (λ i. get_or ws i 0) (sym e))))
    | inr ne ↦ omega (arith, first w, ap (λ z. (item_of z).version) (only w ne (λ y m _ e. let below : y < n = (s.inside y m).below in absurd (omega arith))))
  ]
]

-- after a split, p has a label after it or the items of its group have their old words
pub keeps_split : (n : ℕ) (ws qs vs list : List ℕ) (g h p : ℕ) → ((labels n vs).group p ≡ g) ⊎ ((labels n vs).group p ≡ h)
    → ((labels n vs).group p ≡ h → HasGap n vs list p) → (g ≡ h → ⊥) → 0 < h
    → ((w : ℕ) → w ≢ n + h → NotOf (labels n vs) list h w → get_or vs w 0 ≡ get_or qs w 0) → ((w : ℕ) → w ≤ n → get_or qs w 0 ≡ get_or ws w 0)
    → WordsKeepList n vs list → KeepsGroup n ws vs list p
keeps_split n ws qs vs list g h p in-group gap apart low only items s = elim in-group [
  | inr e ↦ inl (gap e)
  | inl e ↦ inr (λ y m y-g.
      let below : y < n = (s.inside y m).below in
      let ne : 1 + y ≢ n + h = omega arith in
      only (1 + y) ne (λ z z-in z-h w. let same : y ≡ z = omega (arith, w) in apart (sym e ∙ (sym y-g ∙ (ap (labels n vs).group same ∙ z-h))))
      ∙ items (1 + y) (omega arith))
]

-- after a split, a spread of p's group where p has no label after it stores no word again
pub once_spread : (n : ℕ) (ws qs vs list : List ℕ) (p : ℕ) → KeepsGroup n ws qs list p → (HasGap n qs list p → (w : ℕ) → get_or vs w 0 ≡ get_or qs w 0)
    → ((w : ℕ) → NotOf (labels n qs) list ((labels n qs).group p) w → get_or vs w 0 ≡ get_or qs w 0) → ((w : ℕ) → version qs w ≤ version ws w + 1)
    → ((w : ℕ) → version vs w ≤ version qs w + 1) → (w : ℕ) → version vs w ≤ version ws w + 1
once_spread n ws qs vs list p keeps kept only first second w = elim keeps [
  | inl gap ↦ omega (arith, first w, ap (λ z. (item_of z).version) (kept gap w))
  | inr same ↦ elim (of_group w) [
    | inl r ↦ omega (arith, second w, ap (λ z. (item_of z).version) (ap (λ i. get_or qs i 0) r.1 ∙ (same r.0 r.2 r.3 ∙ ap (λ i. get_or ws i 0) (sym r.1))))
    | inr f ↦ omega (arith, first w, ap (λ z. (item_of z).version) (only w f))
  ]
]
  where
    of_group : (v : ℕ) → ((y : ℕ) × (v ≡ 1 + y) × (member y list ≡ true) × ((labels n qs).group y ≡ (labels n qs).group p)) ⊎ NotOf (labels n qs) list
        ((labels n qs).group p) v
    of_group zero = inr (λ y m e z. absurd (omega arith))
    of_group (suc v) = elim (cases_Bool (member v list)) [
      | inl m ↦ elim (cases_eq ((labels n qs).group v) ((labels n qs).group p)) [
        | inl e ↦ inl (v, omega arith, m, e)
        | inr ne ↦ inr (λ y y-in e z. let same : v ≡ y = omega (arith, z) in ne (ap (labels n qs).group same ∙ e))
      ]
      | inr o ↦ inr (λ y y-in e z. let same : v ≡ y = omega (arith, z) in true≢false (sym y-in ∙ (ap (λ i. member i list) (sym same) ∙ o)))
    ]
