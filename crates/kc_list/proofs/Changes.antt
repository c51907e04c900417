-- What stays as the words of one group change.
use Rattle.std.proofs.Common.{◌≡◌, ◌≢◌, ℕ, ◌+◌, ◌<◌, true, false, cond, List, [], ◌∷◌, length, take, drop, map, ◌/◌, eqb, refl, sym, ◌∙◌, ap, subst}
use Rattle.std.proofs.Common.{◌⊎◌, inl, inr, arith}
use Rattle.std.proofs.lemmas.Bool.{cases_Bool, ne_eqb, false≢true, true≢false, false_from_ne_true}
use Rattle.std.proofs.lemmas.List.{length-take-le, length-drop}
use Rattle.kc_words.specs.ItemWord.{item_of}
use Rattle.kc_lists.specs.Lists.{member}
use Rattle.kc_lists.proofs.Members.{member-head, member-tail, member-cases, not_member-cons}
use Rattle.kc_words.specs.Order.{Labels, labels}
use Rattle.kc_list.specs.Places.{WordsKeepList, Segment, Free, NotOf, Halved, size_of, evens}
use Rattle.kc_list.specs.Sheets.{ChangesOnly}
use Rattle.kc_list.proofs.Spreading.{segment_in}
use Rattle.kc_list.proofs.Rooms.{room_after_spread}
use Rattle.kc_lists.proofs.Counting.{drop-member}
use Rattle.kc_list.proofs.Counts.{segment_size}
use Rattle.kc_words.specs.declared.layout.TheConstants.{BOTTOM_ROOM}
use Rattle.kc_list.specs.declared.limits.TheConstants.{GROUP_ITEMS, HALF_ITEMS, HALF_STEP}

-- a word among those of some items is that of one of them
pub member-words : (w : ℕ) (m : List ℕ) → member w (map (λ y. 1 + y) m) ≡ true → (y : ℕ) × (w ≡ 1 + y) × (member y m ≡ true)
member-words w [] k = absurd (false≢true k)
member-words w (x ∷ m) k = elim (member-cases w (1 + x) (map (λ y. 1 + y) m) k) [
  | inl e ↦ (x, e, member-head x m)
  | inr k' ↦ let r = member-words w m k' in (r.0, r.1, member-tail r.0 x m r.2)
]

-- a word of no item of a group is none of the words of the group's members
pub not_of : (a : Labels) (list : List ℕ) (g : ℕ) (m : List ℕ) (w : ℕ) → Segment a list g m → NotOf a list g w → member w (map (λ y. 1 + y) m) ≡ false
not_of a list g m w seg f = false_from_ne_true (member w (map (λ y. 1 + y) m))
    (λ k. let r = member-words w m k in f r.0 (segment_in a list g m seg r.0 r.2) (seg.members r.0 r.2) r.1)

-- the word of an item that is no member is none of the members' words
pub not_word : (y : ℕ) (m : List ℕ) → member y m ≡ false → member (1 + y) (map (λ z. 1 + z) m) ≡ false
not_word y m o = false_from_ne_true (member (1 + y) (map (λ z. 1 + z) m)) (λ k. let r = member-words (1 + y) m k in let e : y ≡ r.0 = omega (arith, r.1) in
    true≢false (sym r.2 ∙ (ap (λ z. member z m) (sym e) ∙ o)))

-- the group of each item, where one group is spread
pub spread_groups : (n : ℕ) (ws vs list : List ℕ) (g : ℕ) (m : List ℕ) (y : ℕ) → Segment (labels n ws) list g m → Segment (labels n vs) list g m
    → ChangesOnly (map (λ z. 1 + z) m) ws vs → (labels n vs).group y ≡ (labels n ws).group y
spread_groups n ws vs list g m y s t only = elim (cases_Bool (member y m)) [
  | inl k ↦ t.members y k ∙ sym (s.members y k)
  | inr o ↦ ap (λ z. (item_of z).group) (only.same (1 + y) (not_word y m o))
]

-- sizes where items agree on being in the group
size-agree_at : (f h : ℕ → ℕ) (g : ℕ) (xs : List ℕ) → ((y : ℕ) → member y xs ≡ true → eqb (h y) g ≡ eqb (f y) g) → size_of h g xs ≡ size_of f g xs
size-agree_at f h g [] e = refl
size-agree_at f h g (x ∷ xs) e =
    omega (arith, ap {B = ℕ} (λ b. cond b 1 0) (e x (member-head x xs)), size-agree_at f h g xs (λ y k. e y (member-tail y x xs k)))

-- a full group is cut in two: what the two have, and what others keep
pub group-halved : (n : ℕ) (ws vs list : List ℕ) (g h p : ℕ) (m : List ℕ) → WordsKeepList n ws list → WordsKeepList n vs list → Segment (labels n ws) list g m
    → length m ≡ GROUP_ITEMS → Free n (labels n ws) list h → Segment (labels n vs) list g (take HALF_ITEMS m)
    → Segment (labels n vs) list h (drop HALF_ITEMS m) → map (labels n vs).bottom (drop HALF_ITEMS m) ≡ evens HALF_ITEMS HALF_STEP 0
    → ChangesOnly ((n + h) ∷ map (λ y. 1 + y) (drop HALF_ITEMS m)) ws vs → member p list ≡ true
    → ((member p (take HALF_ITEMS m) ≡ true) ⊎ (member p (drop HALF_ITEMS m) ≡ true)) → Halved n ws vs list g h p
group-halved n ws vs list g h p m s t seg len free low up bottoms only p-in p-half =
    let a = labels n ws in
    let b = labels n vs in
    let up-length : length (drop HALF_ITEMS m) ≡ HALF_ITEMS = omega (arith, length-drop HALF_ITEMS m, len) in
    let same : (y : ℕ) → member y list ≡ true → member y (drop HALF_ITEMS m) ≡ false → b.group y ≡ a.group y = λ y k o.
    let below : y < n = (s.inside y k).below in
    let ne : 1 + y ≢ n + h = (let z = free.low in omega arith) in
    ap (λ z. (item_of z).group) (only.same (1 + y)
    (not_member-cons (1 + y) (n + h) (map (λ z. 1 + z) (drop HALF_ITEMS m)) ne (not_word y (drop HALF_ITEMS m) o))) in
    let was : (y : ℕ) → member y (drop HALF_ITEMS m) ≡ true → a.group y ≡ g = λ y k. seg.members y (drop-member HALF_ITEMS y m k) in
    record {
      left = segment_size b list g (take HALF_ITEMS m) low ∙ length-take-le HALF_ITEMS m (omega arith);
      fresh = segment_size b list h (drop HALF_ITEMS m) up ∙ up-length;
      others = λ k n-g n-h. size-agree_at a.group b.group k list (λ y y-in. elim (cases_Bool (member y (drop HALF_ITEMS m))) [
        | inl in-up ↦ ne_eqb (b.group y) k (λ e. n-h (sym e ∙ up.members y in-up)) ∙ sym (ne_eqb (a.group y) k (λ e. n-g (sym e ∙ was y in-up)))
        | inr out ↦ ap (λ z. eqb z k) (same y y-in out)
      ]);
      gap = λ e.
          let p-seg : Segment b list (b.group p) (drop HALF_ITEMS m) = subst (λ z. Segment b list z (drop HALF_ITEMS m)) (sym e) up in
          room_after_spread n vs list (drop HALF_ITEMS m) p t p-seg (omega arith) p-in (bottoms ∙ sym (ap (λ z. evens z (BOTTOM_ROOM / (z + 1)) 0) up-length));
      only = λ w ne f. only.same w (not_member-cons w (n + h) (map (λ y. 1 + y) (drop HALF_ITEMS m)) ne (not_of b list h (drop HALF_ITEMS m) w up f));
      group = elim p-half [ inl k ↦ inl (low.members p k) | inr k ↦ inr (up.members p k) ];
    }
