-- A whole call, and what the list answers.
use Rattle.std.proofs.Common.{◌≡◌, ◌≢◌, ℕ, suc, zero, ◌+◌, ◌*◌, ◌<◌, ◌≤◌, true, false, cond, eqb, List, [], ◌∷◌, ◌++◌, length, get_or, set, refl, sym}
use Rattle.std.proofs.Common.{◌∙◌, ap, subst, ◌⊎◌, inl, inr, arith}
use Rattle.std.proofs.lemmas.Bool.{cases_eq, cases_lt, cases_Bool, ne_eqb, eq-eqb, true≢false, false≢true}
use Rattle.std.proofs.lemmas.List.{get_or-set_other, append_assoc, length-append}
use Rattle.kc_words.specs.ItemWord.{item_of}
use Rattle.kc_lists.specs.Lists.{member, Distinct, without, right_after, next_of, prev_of, place_of, InOrder}
use Rattle.kc_lists.proofs.Members.{member-head, member-tail, member-cases, member-append, member-cut, Distinct-cut, without-member, right_after-member}
use Rattle.kc_lists.proofs.Members.{next_of-in, place_of-cut}
use Rattle.kc_words.specs.Order.{labels, PairBelow, Ordered}
use Rattle.kc_list.specs.Places.{Before, WordsKeepList, size_of}
use Rattle.kc_list.specs.Sheets.{Paper, WritesKeepOrder, Raises, RaisedAlong, stored, version, highest_of}
use Rattle.kc_list.specs.Plain.{Written}
use Rattle.kc_list.specs.Tally.{TakesItem}
use Rattle.kc_list.proofs.Counts.{size-agree}
use Rattle.kc_list.specs.Writes.{Write}
use Rattle.kc_list.proofs.Order.{order-parts, Before-then, Before-pairs}
use Rattle.kc_list.proofs.Gathering.{all_before}
use Rattle.kc_list.proofs.Spreading.{stored-append}
use Rattle.kc_list.proofs.Splits.{RaisedAlong-append}
use Rattle.kc_list.proofs.Highest.{version-highest, highest-below}
use Rattle.kc_words.specs.declared.layout.TheConstants.{LAST_VERSION}
use Rattle.kc_words.proofs.Ordering.{Follows-all, PairBelow-asym}
use Rattle.kc_words.proofs.Packing.{none_version}

-- steps and then a write to the word of x are the writes of a call
pub written_from : (n : ℕ) (before after : List ℕ) (x : ℕ) (p q r : Paper) (v : ℕ) → p.writes ≡ [] → WritesKeepOrder n before p q
    → r.words ≡ set q.words (1 + x) v
    → r.writes ≡ q.writes ++ record { word = 1 + x; value = v } ∷ [] → Ordered n r.words after → Raises q.words (record { word = 1 + x; value = v })
    → Written n before after x p.words r.words r.writes
written_from n before after x p q r v none h words writes o rise =
    let one : Write = record { word = 1 + x; value = v } in
    let are : r.writes ≡ h.added ++ one ∷ [] = writes ∙ ap (λ ss. ss ++ one ∷ []) (h.writes ∙ ap (λ ss. ss ++ h.added) none) in
    record {
      front = h.added;
      last = one;
      are = are;
      words = words ∙ (ap (λ ws. set ws (1 + x) v) h.words ∙ (sym (stored-append p.words h.added (one ∷ [])) ∙ ap (stored p.words) (sym are)));
      along = h.along;
      now = o;
      raised = subst (RaisedAlong p.words) (sym are) (RaisedAlong-append p.words h.added (one ∷ []) h.raised (subst (λ ws. Raises ws one) h.words rise, tt));
      last_is = refl;
    }

-- writes that raise versions leave the note
note_stays : (ws : List ℕ) (ss : List Write) → RaisedAlong ws ss → get_or (stored ws ss) 0 0 ≡ get_or ws 0 0
note_stays ws [] h = refl
note_stays ws (s ∷ ss) h = let ne : 0 ≢ s.word = (let l = h.0.low in omega arith) in note_stays (set ws s.word s.value) ss h.1
    ∙ get_or-set_other ws s.word 0 s.value 0 ne

-- where there was no note before a call, there is none after it
pub note_kept : (n : ℕ) (before after : List ℕ) (x : ℕ) (ws vs : List ℕ) (ss : List Write) → Written n before after x ws vs ss → get_or ws 0 0 ≡ 0
    → get_or vs 0 0 ≡ 0
note_kept n before after x ws vs ss h z = ap (λ us. get_or us 0 0) h.words ∙ (note_stays ws ss h.raised ∙ z)

-- what is in the list is in it after a put
pub put_keeps : (x p y : ℕ) (list : List ℕ) → member p list ≡ true → x ≢ p → member y list ≡ true → member y (right_after x p (without x list)) ≡ true
put_keeps x p y list p-in ne y-in =
    let p-still : member p (without x list) ≡ true = without-member p x list p-in (λ e. ne (sym e)) in
    elim (cases_eq y x) [
      | inl e ↦ right_after-member y x p (without x list) p-still (inl e)
      | inr other ↦ right_after-member y x p (without x list) p-still (inr (without-member y x list y-in other))
    ]

-- what stands in the front has a place within it
place-front : (x : ℕ) (l r : List ℕ) → member x l ≡ true → place_of x (l ++ r) < length l
place-front x [] r m = absurd (false≢true m)
place-front x (y ∷ l) r m = elim (cases_eq x y) [
  | inl e ↦ rw (eq-eqb x y e) (omega arith)
  | inr ne ↦ rw (ne_eqb x y ne) (omega (arith, place-front x l r (elim (member-cases x y l m) [ inl e ↦ absurd (ne e) | inr k ↦ k ])))
]

-- what does not stand in the front has a place behind it
place-back : (x : ℕ) (l r : List ℕ) → member x l ≡ false → length l ≤ place_of x (l ++ r)
place-back x [] r m = omega arith
place-back x (y ∷ l) r m = elim (cases_eq x y) [
  | inl e ↦ absurd (true≢false (sym (ap (λ z. member z (y ∷ l)) e ∙ member-head y l) ∙ m))
  | inr ne ↦ rw (ne_eqb x y ne) (omega
      (arith, place-back x l r (elim (cases_Bool (member x l)) [ inl t ↦ absurd (true≢false (sym (member-tail x y l t) ∙ m)) | inr f ↦ f ])))
]

-- of two items of the list, the one with the lesser pair stands before the other, and only it
pub precedes_list : (n : ℕ) (ws list : List ℕ) (x y : ℕ) → WordsKeepList n ws list → member x list ≡ true → member y list ≡ true → x ≢ y
    → (PairBelow (labels n ws) x y → place_of x list < place_of y list) × (place_of x list < place_of y list → PairBelow (labels n ws) x y)
precedes_list n ws list x y s x-in y-in ne =
    let a = labels n ws in
    let c = member-cut y list y-in in
    let apart = Distinct-cut y c.front c.back (subst Distinct c.is s.distinct) in
    let order : InOrder (Before a) (c.front ++ y ∷ c.back) = subst (InOrder (Before a)) c.is s.order in
    let there : length c.front ≤ place_of y list = subst (λ zs. length c.front ≤ place_of y zs) (sym c.is) (place-back y c.front (y ∷ c.back) apart.0) in
    elim (cases_Bool (member x c.front)) [
      | inl t ↦
          let here : place_of x list < length c.front = subst (λ zs. place_of x zs < length c.front) (sym c.is) (place-front x c.front (y ∷ c.back) t) in
          (λ _. omega arith, λ _. Before-pairs a x y (all_before (Before a) (Before-then a) x y c.front c.back order t))
      | inr f ↦
          let in-back : member x c.back ≡ true = elim (member-append x c.front (y ∷ c.back) (ap (member x) (sym c.is) ∙ x-in)) [
            | inl k ↦ absurd (true≢false (sym k ∙ f))
            | inr k ↦ elim (member-cases x y c.back k) [ inl e ↦ absurd (ne e) | inr m ↦ m ]
          ] in
          let after : PairBelow a y x = Before-pairs a y x
          (Follows-all (Before a) (Before-then a) y x c.back ((order-parts (Before a) c.front (y ∷ c.back) order).right) in-back) in
          let front-one : member x (c.front ++ y ∷ []) ≡ false = elim (cases_Bool (member x (c.front ++ y ∷ []))) [
            | inl k ↦ absurd (elim (member-append x c.front (y ∷ []) k)
                [ inl q ↦ true≢false (sym q ∙ f) | inr q ↦ elim (member-cases x y [] q) [ inl e ↦ ne e | inr none ↦ false≢true none ] ])
            | inr o ↦ o
          ] in
          let whole : list ≡ (c.front ++ y ∷ []) ++ c.back = c.is ∙ sym (append_assoc c.front (y ∷ []) c.back) in
          let here : length (c.front ++ y ∷ []) ≤ place_of x list =
          subst (λ zs. length (c.front ++ y ∷ []) ≤ place_of x zs) (sym whole) (place-back x (c.front ++ y ∷ []) c.back front-one) in
          let y-at : place_of y list ≡ length c.front = ap (place_of y) c.is ∙ place_of-cut y c.front c.back apart.0 in
          let no-less : place_of x list < place_of y list → ⊥ = λ lt. absurd (omega (arith, here, y-at, lt, length-append c.front (y ∷ []))) in
          (λ h. absurd (PairBelow-asym a x y h after), λ lt. absurd (no-less lt))
    ]

-- what stands right after an item, where it is not the end, is in the list
pub next_member : (n : ℕ) (x q : ℕ) (list : List ℕ) → q ≡ next_of n x list → (q ≡ n → ⊥) → member q list ≡ true
next_member n x q list e ne = elim (next_of-in n x list) [ inl z ↦ absurd (ne (e ∙ z)) | inr k ↦ ap (λ w. member w list) e ∙ k ]

-- what stands right before x is the start, or a member
prev_of-in : (e x : ℕ) (zs : List ℕ) → (prev_of e x zs ≡ e) ⊎ (member (prev_of e x zs) zs ≡ true)
prev_of-in e x [] = inl refl
prev_of-in e x (y ∷ ys) = elim (eqb x y) as (λ b. (cond b e (prev_of y x ys) ≡ e) ⊎ (member (cond b e (prev_of y x ys)) (y ∷ ys) ≡ true)) [
  | true ↦ inl refl
  | false ↦ elim (prev_of-in y x ys) [
    | inl q ↦ inr (ap (λ z. member z (y ∷ ys)) q ∙ member-head y ys)
    | inr k ↦ inr (member-tail (prev_of y x ys) y ys k)
  ]
]

-- what stands right before an item, where it is not the end, is in the list
pub prev_member : (n : ℕ) (x q : ℕ) (list : List ℕ) → q ≡ prev_of n x list → (q ≡ n → ⊥) → member q list ≡ true
prev_member n x q list e ne = elim (prev_of-in n x list) [ inl z ↦ absurd (ne (e ∙ z)) | inr k ↦ ap (λ w. member w list) e ∙ k ]

-- the greatest version is that of a word
some_word : (ws : List ℕ) → 0 < length ws → (w : ℕ) × (w < length ws) × (version ws w ≡ highest_of ws)
some_word [] l = absurd (omega arith)
some_word (u ∷ []) l = (zero, omega arith, omega arith)
some_word (u ∷ v ∷ ws) l =
    let r = some_word (v ∷ ws) (omega arith) in
    elim (cases_lt (item_of u).version (highest_of (v ∷ ws))) [
      | inl lt ↦ (suc r.0, omega (arith, r.1), r.2 ∙ omega arith)
      | inr ge ↦ (zero, omega arith, omega arith)
    ]

-- the greatest version is that of an item's or a group's word
pub version-reached : (n h : ℕ) (ws : List ℕ) → length ws ≡ n + n + 2 → get_or ws 0 0 ≡ 0 → h ≡ highest_of ws
    → (w : ℕ) × (1 ≤ w) × (w ≤ 2 * n + 1) × (version ws w ≡ h)
version-reached n h ws e note is =
    let r = some_word ws (omega arith) in
    elim (cases_eq r.0 0) [
      | inl z ↦
          let zero-is : h ≡ 0 = omega (arith, r.2, ap (version ws) z, ap (λ u. (item_of u).version) note, none_version) in
          (1, omega arith, omega arith, omega (arith, version-highest ws 1))
      | inr some ↦ (r.0, omega arith, omega (arith, r.1), r.2 ∙ sym is)
    ]

-- where the items keep their groups, the group of p can take x as before
pub takes_kept : (n : ℕ) (ws vs list : List ℕ) (x p : ℕ) → WordsKeepList n ws list → WordsKeepList n vs list → x < n → member p list ≡ true
    → ((y : ℕ) → member y list ≡ true → (labels n vs).group y ≡ (labels n ws).group y) → TakesItem n ws list x p → TakesItem n vs list x p
takes_kept n ws vs list x p s t below p-in same takes = elim takes [
  | inl less ↦ inl (omega (
    arith,
    less,
    ap (λ g. size_of (labels n vs).group g list) (same p p-in),
    size-agree (labels n ws).group (labels n vs).group ((labels n ws).group p) list same,
  ))
  | inr e ↦ elim (cases_Bool (member x list)) [
    | inl m ↦ inr (same x m ∙ (e ∙ sym (same p p-in)))
    | inr o ↦ absurd (let low = (s.inside p p-in).group_low in let z = s.outside x below o in omega arith)
  ]
]

-- the versions that a call starts from
pub spare_versions : (ws us now : List ℕ) (w : ℕ) → us ≡ ws → ws ≡ now → highest_of now + 3 ≤ LAST_VERSION → version us w + 3 ≤ LAST_VERSION
spare_versions ws us now w e is h = omega (arith, version-highest us w, ap highest_of (e ∙ is), h)

-- where no version but the stored one may be above k, and the new one is not, the greatest is not
pub highest_once : (ws vs : List ℕ) (w v k : ℕ) → vs ≡ set ws w v → version vs w ≡ version ws w + 1 → ((u : ℕ) → u ≢ w → version ws u ≤ k)
    → version ws w + 1 ≤ k → highest_of vs ≤ k
highest_once ws vs w v k e ver others here = highest-below vs k (λ u. elim (cases_eq u w) [
  | inl is ↦ omega (arith, ap (version vs) is, ver, here)
  | inr ne ↦ omega (arith, others u ne, ap (λ z. (item_of z).version) (ap (λ us. get_or us u 0) e ∙ get_or-set_other ws w u v 0 ne))
])
