-- How a list opens.
use Rattle.std.proofs.Common.{◌≡◌, ◌≢◌, ℕ, suc, zero, ◌+◌, ◌-◌, ◌*◌, ◌/◌, ◌%◌, ◌<◌, ◌≤◌, true, false, min, List, [], ◌∷◌, length, get_or, set, map}
use Rattle.std.proofs.Common.{refl, sym, ◌∙◌, ap, subst, ◌⊎◌, inl, inr, arith, mul-le-mul_right}
use Rattle.std.proofs.lemmas.Bool.{cases_eq, cases_lt, cases_Bool, eq-eqb, ne_eqb, false_from_ne_true}
use Rattle.std.proofs.lemmas.List.{length-set, get_or-set_same, get_or-set_other}
use Rattle.std.proofs.Math.ListN.{get_or-eq_default}
use Rattle.std.proofs.lemmas.Nat.{le-div, div-add-mod'}
use Rattle.kc_words.specs.declared.item.ItemWord.{ItemWord}
use Rattle.kc_words.specs.ItemWord.{item_of}
use Rattle.kc_words.specs.GroupWord.{group_of}
use Rattle.kc_lists.specs.Lists.{member, Distinct, InOrder, Follows}
use Rattle.kc_lists.proofs.Members.{below_bound}
use Rattle.kc_relabel.proofs.Once.{Distinct-at}
use Rattle.kc_words.specs.Order.{labels}
use Rattle.kc_list.specs.Places.{Before, WordsKeepList, size_of}
use Rattle.kc_list.specs.Sheets.{ChangesOnly, version, highest_of}
use Rattle.kc_list.specs.Tally.{AreGroupSizes, opening_count}
use Rattle.kc_list.specs.Opening.{IsOpening, opening_item, opening_group, opening_groups}
use Rattle.kc_list.proofs.Spreading.{only-more, member-map}
use Rattle.kc_list.proofs.Splits.{same_version}
use Rattle.kc_list.proofs.Changes.{not_word, member-words}
use Rattle.kc_list.proofs.Groupings.{index_of}
use Rattle.kc_list.proofs.Highest.{highest-all}
use Rattle.kc_words.specs.declared.layout.TheConstants.{ITEMS, BOTTOM_ROOM, TOP_ROOM}
use Rattle.kc_words.proofs.Packing.{none_version}
use Rattle.kc_list.specs.declared.limits.TheConstants.{OPENING_ITEMS}
use Rattle.kc_lists.proofs.Counting.{member-get_or}

-- one item more has its word
pub item_there : (len i count v b : ℕ) (w : ItemWord) → i < len → count ≡ min (len - (i - i % OPENING_ITEMS)) OPENING_ITEMS
    → b ≡ (i % OPENING_ITEMS + 1) * (BOTTOM_ROOM / (count + 1)) → w ≡ record { version = v; group = 1 + i / OPENING_ITEMS; bottom = b }
    → w ≡ opening_item v len i
item_there len i count v b w l c-is b-is w-is =
    let same : count ≡ opening_count len (1 + i / OPENING_ITEMS) = c-is ∙ omega arith in
    w-is ∙ ap (λ z. record { version = v; group = 1 + i / OPENING_ITEMS; bottom = z }) (b-is ∙ ap (λ z. (i % OPENING_ITEMS + 1) * (BOTTOM_ROOM / (z + 1))) same)

-- with one item more placed, those so far have their words, and none but items' words have changed
pub placed_step : (order start ws : List ℕ) (v i w : ℕ) → Distinct order → i < length order → 1 + get_or order i 0 < length ws
    → item_of w ≡ opening_item v (length order) i → ((k : ℕ) → k < i → item_of (get_or ws (1 + get_or order k 0) 0) ≡ opening_item v (length order) k)
    → ChangesOnly (map (λ x. 1 + x) order) start ws
    → ((k : ℕ) → k < i + 1 → item_of (get_or (set ws (1 + get_or order i 0) w) (1 + get_or order k 0) 0) ≡ opening_item v (length order) k) × ChangesOnly
    (map (λ x. 1 + x) order) start (set ws (1 + get_or order i 0) w)
placed_step order start ws v i w d l in-ws is before only = (
  λ k k-i. elim (cases_eq k i) [
    | inl e ↦ ap (λ z. item_of (get_or (set ws (1 + get_or order i 0) w) (1 + get_or order z 0) 0)) e
        ∙ (ap item_of (get_or-set_same ws (1 + get_or order i 0) w 0 in-ws) ∙ (is ∙ ap (opening_item v (length order)) (sym e)))
    | inr ne ↦
        let k-less : k < i = omega arith in
        let apart : 1 + get_or order k 0 ≢ 1 + get_or order i 0 = λ e. Distinct-at order k i d k-less l (omega arith) in
        ap item_of (get_or-set_other ws (1 + get_or order i 0) (1 + get_or order k 0) w 0 apart) ∙ before k k-less
  ],
  only-more (map (λ x. 1 + x) order) start ws (set ws (1 + get_or order i 0) w) (1 + get_or order i 0) w only
      (member-map (λ x. 1 + x) order (get_or order i 0) (member-get_or order i 0 l)) refl,
)

-- once all items are placed and all groups have labels, the words are those of an opening
pub opening_from : (n v : ℕ) (order start mid ws : List ℕ) → Distinct order → ((x : ℕ) → member x order ≡ true → x < n) → length start ≡ n + n + 2
    → get_or start 0 0 ≡ 0 → ((w : ℕ) → 0 < w → w < n + n + 2 → item_of (get_or start w 0) ≡ record { version = v; group = 0; bottom = 0 })
    → ((i : ℕ) → i < length order → item_of (get_or mid (1 + get_or order i 0) 0) ≡ opening_item v (length order) i)
    → ChangesOnly (map (λ x. 1 + x) order) start mid
    → length ws ≡ n + n + 2 → ((j : ℕ) → j < opening_groups (length order) → group_of (get_or ws (n + (1 + j)) 0) ≡ opening_group v (length order) j)
    → ((w : ℕ) → (w ≤ n) ⊎ (n + opening_groups (length order) < w) → get_or ws w 0 ≡ get_or mid w 0) → IsOpening n v order ws
opening_from n v order start mid ws d within s-len s-note s-blank placed only w-len tops w-only =
    let not_high : (w : ℕ) → n < w → member w (map (λ x. 1 + x) order) ≡ false =
    λ w l. false_from_ne_true (member w (map (λ x. 1 + x) order)) (λ m. let r = member-words w order m in let b = within r.0 r.2 in
    absurd (omega (arith, r.1, b))) in
    let zero_out : member 0 (map (λ x. 1 + x) order) ≡ false =
    false_from_ne_true (member 0 (map (λ x. 1 + x) order)) (λ m. let r = member-words 0 order m in absurd (omega (arith, r.1))) in
    record {
      size = w-len;
      note = w-only 0 (inl (omega arith)) ∙ (only.same 0 zero_out ∙ s-note);
      placed = λ i l. let b = within (get_or order i 0) (member-get_or order i 0 l) in ap item_of (w-only (1 + get_or order i 0) (inl (omega (arith, b))))
          ∙ placed i l;
      out = λ x l o. ap item_of (w-only (1 + x) (inl (omega arith)) ∙ only.same (1 + x) (not_word x order o)) ∙ s-blank (1 + x) (omega arith) (omega arith);
      tops = tops;
      unused = λ g low high. ap (λ z. (item_of z).version) (w-only (n + g) (inr (omega arith)) ∙ only.same (n + g) (not_high (n + g) (omega arith)))
          ∙ ap (λ z. z.version) (s-blank (n + g) (omega arith) (omega arith));
    }

-- a list is in order where what stands at each place is related to what stands at the next
InOrder-at : (R : ℕ → ℕ → Type 0) (xs : List ℕ) → ((i : ℕ) → i + 1 < length xs → R (get_or xs i 0) (get_or xs (i + 1) 0)) → InOrder R xs
InOrder-at R [] f = tt
InOrder-at R (x ∷ xs) f = follow x xs f
  where
    follow : (y : ℕ) (ys : List ℕ) → ((i : ℕ) → i + 1 < length (y ∷ ys) → R (get_or (y ∷ ys) i 0) (get_or (y ∷ ys) (i + 1) 0)) → Follows R y ys
    follow y [] g = tt
    follow y (z ∷ zs) g = (
      g 0 (omega arith),
      follow z zs (λ i l. let s : suc i + 1 ≡ suc (i + 1) = omega arith in
          subst (λ k. R (get_or (z ∷ zs) i 0) (get_or (y ∷ z ∷ zs) k 0)) s (g (suc i) (omega arith))),
    )

-- what the words say of the items and groups
pub record Reads (n len : ℕ) (order ws : List ℕ) : Type 0 where
  pub group : (i : ℕ) → i < len → (labels n ws).group (get_or order i 0) ≡ 1 + i / OPENING_ITEMS
  pub bottom : (i : ℕ) → i < len
      → (labels n ws).bottom (get_or order i 0) ≡ (i % OPENING_ITEMS + 1) * (BOTTOM_ROOM / (opening_count len (1 + i / OPENING_ITEMS) + 1))
  pub top : (j : ℕ) → j < opening_groups len → (labels n ws).top (1 + j) ≡ (j + 1) * (TOP_ROOM / (opening_groups len + 1))

-- what the words of an opening say of the items and groups is what was packed
opening-reads : (n v : ℕ) (order ws : List ℕ) → IsOpening n v order ws → Reads n (length order) order ws
opening-reads n v order ws o = record {
  group = λ i l. ap (λ z. z.group) (o.placed i l);
  bottom = λ i l. ap (λ z. z.bottom) (o.placed i l);
  top = λ j l. ap (λ z. z.top) (o.tops j l);
}

-- one step more is a product with one more
next_product : (a s : ℕ) → (a + 1) * s ≡ a * s + s
next_product a s = omega arith

-- fewer of the steps that fit in a room than all of them end below its end
below_end : (a c room : ℕ) → a ≤ c → 1 ≤ room / (c + 1) → (c + 1) * (room / (c + 1)) ≤ room → a * (room / (c + 1)) < room
below_end a c room l some all =
    let le : a * (room / (c + 1)) ≤ c * (room / (c + 1)) = mul-le-mul_right (room / (c + 1)) l in
    omega (arith, le, next_product c (room / (c + 1)))

-- where a room has more labels than are asked for, the step between them is not 0 and all steps fit
step_some : (c room : ℕ) → c + 1 ≤ room → (1 ≤ room / (c + 1)) × ((c + 1) * (room / (c + 1)) ≤ room)
step_some c room l = (le-div 1 room (c + 1) (omega arith) (omega arith), let e = div-add-mod' room (c + 1) in omega (arith, e))

-- a product of what is not 0 is not 0
first_product : (a s : ℕ) → 1 ≤ s → 1 ≤ (a + 1) * s
first_product a s l = omega (arith, next_product a s)

-- the words of an opening have the list in order
pub opened_sound : (n v : ℕ) (order ws : List ℕ) → n ≤ ITEMS → Distinct order → ((x : ℕ) → member x order ≡ true → x < n) → IsOpening n v order ws
    → WordsKeepList n ws order
opened_sound n v order ws small d within o =
    let a = labels n ws in
    let r = opening-reads n v order ws o in
    let len = length order in
    let few : length order ≤ n = below_bound n order d within in
    let k = opening_groups (length order) in
    let S = step_some (opening_groups (length order)) TOP_ROOM (omega arith) in
    record {
      size = o.size;
      distinct = d;
      order = InOrder-at (Before (labels n ws)) order (λ i l.
          let l0 : i < length order = omega arith in
          elim (cases_eq (i % OPENING_ITEMS) (OPENING_ITEMS - 1)) [
            | inr inner ↦
                let same : (i + 1) / OPENING_ITEMS ≡ i / OPENING_ITEMS = omega arith in
                let more : (i + 1) % OPENING_ITEMS ≡ i % OPENING_ITEMS + 1 = omega arith in
                let c = opening_count (length order) (1 + i / OPENING_ITEMS) in
                let s = step_some (opening_count (length order) (1 + i / OPENING_ITEMS)) BOTTOM_ROOM (omega arith) in
                let next : (labels n ws).bottom (get_or order (i + 1) 0) ≡ (i % OPENING_ITEMS + 1 + 1) *
                (BOTTOM_ROOM / (opening_count (length order) (1 + i / OPENING_ITEMS) + 1)) = r.bottom (i + 1) l
                ∙ (ap (λ z. ((i + 1) % OPENING_ITEMS + 1) * (BOTTOM_ROOM / (opening_count (length order) (1 + z) + 1))) same
                ∙ ap (λ z. (z + 1) * (BOTTOM_ROOM / (opening_count (length order) (1 + i / OPENING_ITEMS) + 1))) more) in
                inl (
                  r.group i l0 ∙ (ap (λ z. 1 + z) (sym same) ∙ sym (r.group (i + 1) l)),
                  omega (
                    arith,
                    r.bottom i l0,
                    next,
                    next_product (i % OPENING_ITEMS + 1) (BOTTOM_ROOM / (opening_count (length order) (1 + i / OPENING_ITEMS) + 1)),
                    s.0,
                  ),
                )
            | inl last ↦
                let more : (i + 1) / OPENING_ITEMS ≡ i / OPENING_ITEMS + 1 = omega arith in
                let here : (labels n ws).top ((labels n ws).group (get_or order i 0)) ≡ (i / OPENING_ITEMS + 1) *
                (TOP_ROOM / (opening_groups (length order) + 1)) = ap (labels n ws).top (r.group i l0) ∙ r.top (i / OPENING_ITEMS) (omega arith) in
                let there : (labels n ws).top ((labels n ws).group (get_or order (i + 1) 0)) ≡ (i / OPENING_ITEMS + 1 + 1) *
                (TOP_ROOM / (opening_groups (length order) + 1)) = ap (labels n ws).top (r.group (i + 1) l)
                ∙ (r.top ((i + 1) / OPENING_ITEMS) (omega arith) ∙ ap (λ z. (z + 1) * (TOP_ROOM / (opening_groups (length order) + 1))) more) in
                inr (omega (arith, here, there, next_product (i / OPENING_ITEMS + 1) (TOP_ROOM / (opening_groups (length order) + 1)), S.0))
          ]);
      inside = λ x m.
          let at = index_of x order m in
          let i = at.0 in
          let l : at.0 < length order = at.1 in
          let c = opening_count (length order) (1 + at.0 / OPENING_ITEMS) in
          let s = step_some (opening_count (length order) (1 + at.0 / OPENING_ITEMS)) BOTTOM_ROOM (omega arith) in
          let group-is : (labels n ws).group x ≡ 1 + at.0 / OPENING_ITEMS = ap (labels n ws).group (sym at.2) ∙ r.group at.0 at.1 in
          let bottom-is : (labels n ws).bottom x ≡ (at.0 % OPENING_ITEMS + 1) * (BOTTOM_ROOM / (opening_count (length order) (1 + at.0 / OPENING_ITEMS) + 1))
          = ap (labels n ws).bottom (sym at.2) ∙ r.bottom at.0 at.1 in
          let top-is : (labels n ws).top ((labels n ws).group x) ≡ (at.0 / OPENING_ITEMS + 1) * (TOP_ROOM / (opening_groups (length order) + 1)) =
          ap (labels n ws).top group-is ∙ r.top (at.0 / OPENING_ITEMS) (omega arith) in
          let in-group : at.0 % OPENING_ITEMS + 1 ≤ opening_count (length order) (1 + at.0 / OPENING_ITEMS) = omega arith in
          record {
            below = within x m;
            group_low = omega (arith, group-is);
            group_high = omega (arith, group-is, few);
            bottom_low = omega (
              arith,
              bottom-is,
              first_product (at.0 % OPENING_ITEMS) (BOTTOM_ROOM / (opening_count (length order) (1 + at.0 / OPENING_ITEMS) + 1)) s.0,
            );
            bottom_high = omega (
              arith,
              bottom-is,
              below_end (at.0 % OPENING_ITEMS + 1) (opening_count (length order) (1 + at.0 / OPENING_ITEMS)) BOTTOM_ROOM
                  in-group s.0 s.1,
            );
            top_low = omega (arith, top-is, first_product (at.0 / OPENING_ITEMS) (TOP_ROOM / (opening_groups (length order) + 1)) S.0);
            top_high = omega (arith, top-is, below_end (at.0 / OPENING_ITEMS + 1) (opening_groups (length order)) TOP_ROOM (omega arith) S.0 S.1);
          };
      outside = λ x l out. ap (λ z. z.group) (o.out x l out);
    }

-- of items that are put into groups one after another, each group has as many as fit or are left
size-opened : (f : ℕ → ℕ) (g s : ℕ) (xs : List ℕ) → 0 < g → ((k : ℕ) → k < length xs → f (get_or xs k 0) ≡ 1 + (s + k) / OPENING_ITEMS)
    → size_of f g xs + min OPENING_ITEMS (s - OPENING_ITEMS * (g - 1)) ≡ min OPENING_ITEMS (s + length xs - OPENING_ITEMS * (g - 1))
size-opened f g s [] low h = omega arith
size-opened f g s (x ∷ xs) low h =
    let rest = size-opened f g (s + 1) xs low (λ k l. h (suc k) (omega arith) ∙ omega arith) in
    let here : f x ≡ 1 + s / OPENING_ITEMS = h 0 (omega arith) ∙ omega arith in
    elim (cases_eq (f x) g) [
      | inl e ↦ rw (eq-eqb (f x) g e) (omega (arith, rest, here, e))
      | inr ne ↦ rw (ne_eqb (f x) g ne) (let other : g ≢ 1 + s / OPENING_ITEMS = λ q. ne (here ∙ sym q) in omega (arith, rest))
    ]

-- the sizes that are counted at the opening are those of the groups
pub opened_tallied : (n v : ℕ) (order ws sizes : List ℕ) → Distinct order → ((x : ℕ) → member x order ≡ true → x < n) → IsOpening n v order ws
    → length sizes ≡ n + 2 → get_or sizes 0 0 ≡ 0 → ((g : ℕ) → 0 < g → g ≤ n + 1 → get_or sizes g 0 ≡ opening_count (length order) g)
    → AreGroupSizes n ws order sizes
opened_tallied n v order ws sizes d within o len zero-is sized =
    let r = opening-reads n v order ws o in
    record {
      length_is = len;
      counts = λ g low high. sized g low high
          ∙ sym (let k = size-opened (labels n ws).group g 0 order low (λ i l. r.group i l ∙ omega arith) in omega (arith, k));
      most = λ g. elim (cases_eq g 0) [
        | inl z ↦ omega (arith, ap (λ i. get_or sizes i 0) z, zero-is)
        | inr some ↦ elim (cases_lt (n + 1) g) [
          | inr in-range ↦ omega (arith, sized g (omega arith) in-range)
          | inl beyond ↦ omega (arith, get_or-eq_default sizes 0 {n = g} (omega arith))
        ]
      ];
    }

-- each word of an opening but the note has the opening's version
pub opened_versions : (n v : ℕ) (order ws : List ℕ) → IsOpening n v order ws → (w : ℕ) → 1 ≤ w → w ≤ 2 * n + 1 → version ws w ≡ v
opened_versions n v order ws o zero low high = absurd (omega arith)
opened_versions n v order ws o (suc x) low high =
    let s : suc x ≡ 1 + x = omega arith in
    elim (cases_lt x n) [
      | inl item ↦ ap (version ws) s ∙ elim (cases_Bool (member x order)) [
        | inl m ↦ (let at = index_of x order m in ap (λ y. version ws (1 + y)) (sym at.2) ∙ ap (λ z. z.version) (o.placed at.0 at.1))
        | inr out ↦ ap (λ z. z.version) (o.out x item out)
      ]
      | inr group ↦
          let g-is : suc x ≡ n + (1 + (x - n)) = omega arith in
          ap (version ws) g-is ∙ elim (cases_lt (x - n) (opening_groups (length order))) [
            | inl used ↦ same_version (get_or ws (n + (1 + (x - n))) 0) ∙ ap (λ z. z.version) (o.tops (x - n) used)
            | inr free ↦ o.unused (1 + (x - n)) (omega arith) (omega arith)
          ]
    ]

-- the greatest version of an opening is the opening's version
pub opened_highest : (n v : ℕ) (order ws : List ℕ) → IsOpening n v order ws → highest_of ws ≡ v
opened_highest n v order ws o =
    highest-all ws v 1 (omega (arith, o.size)) (opened_versions n v order ws o 1 (omega arith) (omega arith)) (λ w. elim (cases_eq w 0) [
      | inl z ↦ omega (arith, ap (version ws) z, ap (λ u. (item_of u).version) o.note, none_version)
      | inr some ↦ elim (cases_lt (2 * n + 1) w) [
        | inr in-range ↦ omega (arith, opened_versions n v order ws o w (omega arith) in-range)
        | inl beyond ↦ omega (arith, ap (λ u. (item_of u).version) (get_or-eq_default ws 0 {n = w} (omega (arith, o.size))), none_version)
      ]
    ])

-- before any item is placed, the words are as many as needed, and each but the note is that of nothing
pub blank_facts : (n v : ℕ) (ys : List ℕ) → length ys ≡ n + n + 2
    → ((w : ℕ) → w < length ys → item_of (get_or ys w 0) ≡ record { version = v; group = 0; bottom = 0 })
    → (length (set ys 0 0) ≡ n + n + 2) × (get_or (set ys 0 0) 0 0 ≡ 0) ×
    ((w : ℕ) → 0 < w → w < n + n + 2 → item_of (get_or (set ys 0 0) w 0) ≡ record { version = v; group = 0; bottom = 0 })
blank_facts n v ys l e = (
  length-set ys 0 0 ∙ l,
  get_or-set_same ys 0 0 0 (omega arith),
  λ w low high. let ne : w ≢ 0 = omega arith in ap item_of (get_or-set_other ys 0 w 0 0 ne) ∙ e w (omega arith),
)
