-- An item is taken out, and the sizes of the groups as items come and go.
use Rattle.std.proofs.Common.{◌≡◌, ◌≢◌, ℕ, ◌+◌, ◌-◌, ◌^◌, ◌<◌, ◌≤◌, true, false, cond, List, length, get_or, set, eqb, refl, sym, ◌∙◌, ap, inl, inr, arith}
use Rattle.std.proofs.lemmas.Bool.{cases_eq, cases_Bool, eq-eqb, ne_eqb, true≢false, false_from_ne_true}
use Rattle.std.proofs.lemmas.List.{length-set, get_or-set_same, get_or-set_other}
use Rattle.kc_words.specs.ItemWord.{item_of, item_word, IsFitting}
use Rattle.kc_words.proofs.Packing.{item_of-item_word}
use Rattle.kc_words.specs.declared.item.ItemWord.{ItemWord}
use Rattle.kc_lists.specs.Lists.{member, without, right_after}
use Rattle.kc_words.specs.declared.layout.TheConstants.{VERSION_BITS}
use Rattle.kc_lists.proofs.Members.{member-without, without-member, without-none, Distinct-without}
use Rattle.kc_words.specs.Order.{labels}
use Rattle.kc_list.specs.Places.{Before, Placed, WordsKeepList, ItemStored, size_of}
use Rattle.kc_list.specs.Tally.{AreGroupSizes, TakesItem}
use Rattle.kc_list.proofs.Order.{Agrees, Before-then, InOrder-without, order-agreed}
use Rattle.kc_list.proofs.WritesWord.{item_stored}
use Rattle.kc_list.proofs.Putting.{item_agrees, Placed-agrees}
use Rattle.kc_list.proofs.Counts.{size-without, size-right_after, size-agree}

-- a store of no group to the word of x has the list in order without x
pub take_sound : (n : ℕ) (ws list : List ℕ) (x v : ℕ) (w : ItemWord) → WordsKeepList n ws list → member x list ≡ true → item_of v ≡ w → w.group ≡ 0
    → WordsKeepList n (set ws (1 + x) v) (without x list)
take_sound n ws list x v w s x-in is out =
    let a = labels n ws in
    let b = labels n (set ws (1 + x) v) in
    let st : ItemStored a b n x w.group w.bottom = item_stored n ws x v w (s.inside x x-in).below s.size is in
    let agrees : (y : ℕ) → member y (without x list) ≡ true → Agrees a b y = λ y m. let k = member-without y x list m in
    item_agrees a b n x w.group w.bottom y st k.1 (s.inside y k.0).group_low in
    record {
      size = length-set ws (1 + x) v ∙ s.size;
      distinct = Distinct-without x list s.distinct;
      order = order-agreed a b (without x list) agrees (InOrder-without (Before a) (Before-then a) x list s.order);
      inside = λ y m. Placed-agrees n a b y (agrees y m) (s.inside y (member-without y x list m).0);
      outside = λ y l o. elim (cases_eq y x) [
        | inl e ↦ ap b.group e ∙ (st.group ∙ out)
        | inr ne ↦
            let y-out : member y list ≡ false = false_from_ne_true (member y list) (λ k. true≢false (sym (without-member y x list k ne) ∙ o)) in
            st.groups y ne ∙ s.outside y l y-out
      ];
    }

-- after x is taken out by the word as the program stores it, which fits and is read again
pub record TakeFacts (n : ℕ) (ws list : List ℕ) (x : ℕ) (w : ItemWord) : Type 0 where
  pub fits : IsFitting w
  pub sound : WordsKeepList n (set ws (1 + x) (item_word w)) (without x list)
  pub again : item_of (get_or (set ws (1 + x) (item_word w)) (1 + x) 0) ≡ w

-- the word that the program stores as x is taken out has the list in order without x
pub take_facts : (n : ℕ) (ws list : List ℕ) (x : ℕ) (w : ItemWord) → WordsKeepList n ws list → member x list ≡ true → w.version < 2 ^ VERSION_BITS → w.group ≡ 0
    → w.bottom ≡ 0
    → TakeFacts n ws list x w
take_facts n ws list x w s x-in v g b =
    let fits : IsFitting w = (v, omega arith, omega arith) in
    let below : x < n = (s.inside x x-in).below in
    record {
      fits = fits;
      sound = take_sound n ws list x (item_word w) w s x-in (item_of-item_word w fits) g;
      again = ap item_of (get_or-set_same ws (1 + x) (item_word w) 0 (omega (arith, s.size))) ∙ item_of-item_word w fits;
    }

-- the other items keep their groups
stored_other : (n : ℕ) (ws vs : List ℕ) (x v y : ℕ) → vs ≡ set ws (1 + x) v → y ≢ x → (labels n vs).group y ≡ (labels n ws).group y
stored_other n ws vs x v y e ne = let d : 1 + y ≢ 1 + x = λ q. ne (omega arith) in
    ap (λ z. (item_of z).group) (ap (λ us. get_or us (1 + y) 0) e ∙ get_or-set_other ws (1 + x) (1 + y) v 0 d)

-- without x, a group has one less where x is in it
pub size_less : (n : ℕ) (ws vs list : List ℕ) (x v k : ℕ) → WordsKeepList n ws list → x < n → vs ≡ set ws (1 + x) v → 0 < k
    → size_of (labels n vs).group k (without x list) + cond (eqb ((labels n ws).group x) k) 1 0 ≡ size_of (labels n ws).group k list
size_less n ws vs list x v k s below e low =
    let f = (labels n ws).group in
    let kept : size_of (labels n vs).group k (without x list) ≡ size_of (labels n ws).group k (without x list) =
    size-agree (labels n ws).group (labels n vs).group k (without x list) (λ y m. stored_other n ws vs x v y e (member-without y x list m).1) in
    elim (cases_Bool (member x list)) [
      | inl x-in ↦ omega (arith, kept, size-without (labels n ws).group k x list s.distinct x-in)
      | inr x-out ↦
          let none : eqb ((labels n ws).group x) k ≡ false = ne_eqb ((labels n ws).group x) k (let z = s.outside x below x-out in omega arith) in
          rw none (omega (arith, kept, ap (size_of (labels n ws).group k) (without-none x list x-out)))
    ]

-- with x taken out, the sizes with one less for its group are those of the groups
pub tally_taken : (n : ℕ) (ws vs list sizes : List ℕ) (x v g : ℕ) → WordsKeepList n ws list → member x list ≡ true → AreGroupSizes n ws list sizes
    → vs ≡ set ws (1 + x) v
    → g ≡ (labels n ws).group x → AreGroupSizes n vs (without x list) (set sizes g (get_or sizes g 0 - 1))
tally_taken n ws vs list sizes x v g s x-in t e g-is =
    let placed : Placed n (labels n ws) x = s.inside x x-in in
    let g-low : 0 < g = omega (arith, placed.group_low) in
    let g-high : g ≤ n + 1 = omega (arith, placed.group_high) in
    let here : get_or (set sizes g (get_or sizes g 0 - 1)) g 0 ≡ get_or sizes g 0 - 1 =
    get_or-set_same sizes g (get_or sizes g 0 - 1) 0 (omega (arith, t.length_is)) in
    record {
      length_is = length-set sizes g (get_or sizes g 0 - 1) ∙ t.length_is;
      counts = λ k low high. let less = size_less n ws vs list x v k s placed.below e low in elim (cases_eq k g) [
        | inl q ↦ let yes : eqb ((labels n ws).group x) k ≡ true = eq-eqb ((labels n ws).group x) k (omega arith) in
            let one = rw yes at less in
            ap (λ i. get_or (set sizes g (get_or sizes g 0 - 1)) i 0) q
            ∙ omega (
              arith,
              here,
              t.counts g g-low g-high,
              one,
              ap (λ i. size_of (labels n ws).group i list) q,
              ap (λ i. size_of (labels n vs).group i (without x list)) q,
            )
        | inr ne ↦ let no-k : eqb ((labels n ws).group x) k ≡ false = ne_eqb ((labels n ws).group x) k (λ w. ne (sym (g-is ∙ w))) in
            let none = rw no-k at less in
            get_or-set_other sizes g k (get_or sizes g 0 - 1) 0 ne ∙ omega (arith, t.counts k low high, none)
      ];
      most = λ k. elim (cases_eq k g) [
        | inl q ↦ omega (arith, ap (λ i. get_or (set sizes g (get_or sizes g 0 - 1)) i 0) q, here, t.most g)
        | inr ne ↦ omega (arith, get_or-set_other sizes g k (get_or sizes g 0 - 1) 0 ne, t.most k)
      ];
    }

-- a group that has an item is not empty
pub used_size : (n : ℕ) (ws list sizes : List ℕ) (y : ℕ) → WordsKeepList n ws list → AreGroupSizes n ws list sizes → member y list ≡ true
    → 0 < get_or sizes ((labels n ws).group y) 0
used_size n ws list sizes y s t m =
    let p : Placed n (labels n ws) y = s.inside y m in
    let k = size-without (labels n ws).group ((labels n ws).group y) y list s.distinct m in
    let one = rw (eq-eqb ((labels n ws).group y) ((labels n ws).group y) refl) at k in
    omega (arith, t.counts ((labels n ws).group y) p.group_low p.group_high, one)

-- with x put right after p, its new group has one more, and its old one, if any, one less
pub size_more : (n : ℕ) (ws vs list : List ℕ) (x p v k : ℕ) → WordsKeepList n ws list → x < n → member p list ≡ true → (x ≡ p → ⊥) → vs ≡ set ws (1 + x) v
    → (labels n vs).group x ≡ (labels n ws).group p → 0 < k
    → size_of (labels n vs).group k (right_after x p (without x list)) + cond (eqb ((labels n ws).group x) k) 1 0 ≡ size_of (labels n ws).group k list + cond
    (eqb ((labels n ws).group p) k) 1 0
size_more n ws vs list x p v k s below p-in ne e to low =
    let less = size_less n ws vs list x v k s below e low in
    let more = size-right_after (labels n vs).group k x p (without x list) (Distinct-without x list s.distinct)
    (without-member p x list p-in (λ q. ne (sym q))) in
    omega (arith, less, more, ap {B = ℕ} (λ g. cond (eqb g k) 1 0) to)

-- sizes with one more for the new group of x and one less for its old one are those of the groups
pub tally_moved : (n : ℕ) (ws vs list sizes new : List ℕ) (x p v from to : ℕ) → WordsKeepList n ws list → x < n → member p list ≡ true → (x ≡ p → ⊥)
    → AreGroupSizes n ws list sizes → TakesItem n ws list x p → vs ≡ set ws (1 + x) v → (labels n vs).group x ≡ (labels n ws).group p
    → from ≡ (labels n ws).group x → to ≡ (labels n ws).group p → length new ≡ length sizes → get_or new 0 0 ≡ get_or sizes 0 0
    → ((k : ℕ) → 0 < k → get_or new k 0 + cond (eqb from k) 1 0 ≡ get_or sizes k 0 + cond (eqb to k) 1 0)
    → AreGroupSizes n vs (right_after x p (without x list)) new
tally_moved n ws vs list sizes new x p v from to s below p-in ne t takes e group from-is to-is len zero-is each =
    let placed : Placed n (labels n ws) p = s.inside p p-in in
    let size-to : get_or sizes to 0 ≡ size_of (labels n ws).group ((labels n ws).group p) list = ap (λ g. get_or sizes g 0) to-is
    ∙ t.counts ((labels n ws).group p) placed.group_low placed.group_high in
    record {
      length_is = len ∙ t.length_is;
      counts = λ k low high.
          let more = size_more n ws vs list x p v k s below p-in ne e group low in
          omega (arith, each k low, more, t.counts k low high, ap {B = ℕ} (λ g. cond (eqb g k) 1 0) from-is, ap {B = ℕ} (λ g. cond (eqb g k) 1 0) to-is);
      most = λ k. elim (cases_eq k 0) [
        | inl z ↦ omega (arith, ap (λ i. get_or new i 0) z, zero-is, t.most 0)
        | inr some ↦ elim (cases_eq to k) [
          | inl q ↦ elim takes [
            | inl less ↦ omega (arith, each k (omega arith), rw (eq-eqb to k q) at (each k (omega arith)), size-to, less, ap (λ i. get_or sizes i 0) q)
            | inr same ↦ (let q' : from ≡ k = from-is ∙ (same ∙ (sym to-is ∙ q)) in
                omega (arith, rw (eq-eqb to k q, eq-eqb from k q') at (each k (omega arith)), t.most k))
          ]
          | inr other ↦ omega (arith, rw (ne_eqb to k other) at (each k (omega arith)), t.most k)
        ]
      ];
    }

-- a size that is raised by one is one more for its group alone
pub size-bumped : (sizes : List ℕ) (to k : ℕ) → to < length sizes → get_or (set sizes to (get_or sizes to 0 + 1)) k 0 ≡ get_or sizes k 0 + cond (eqb to k) 1 0
size-bumped sizes to k l = elim (cases_eq k to) [
  | inl e ↦ rw (eq-eqb to k (sym e))
      (ap (λ i. get_or (set sizes to (get_or sizes to 0 + 1)) i 0) e
      ∙ (get_or-set_same sizes to (get_or sizes to 0 + 1) 0 l ∙ ap (λ i. get_or sizes i 0 + 1) (sym e)))
  | inr ne ↦ rw (ne_eqb to k (λ e. ne (sym e))) (get_or-set_other sizes to k (get_or sizes to 0 + 1) 0 ne ∙ omega arith)
]

-- a size that is lowered by one is one less for its group alone
pub size-dropped : (sizes : List ℕ) (from k : ℕ) → from < length sizes → 0 < get_or sizes from 0
    → get_or (set sizes from (get_or sizes from 0 - 1)) k 0 + cond (eqb from k) 1 0 ≡ get_or sizes k 0
size-dropped sizes from k l some = elim (cases_eq k from) [
  | inl e ↦ rw (eq-eqb from k (sym e))
      (omega (
        arith,
        ap (λ i. get_or (set sizes from (get_or sizes from 0 - 1)) i 0) e,
        get_or-set_same sizes from (get_or sizes from 0 - 1) 0 l,
        ap (λ i. get_or sizes i 0) e,
      ))
  | inr ne ↦ rw (ne_eqb from k (λ e. ne (sym e))) (omega (arith, get_or-set_other sizes from k (get_or sizes from 0 - 1) 0 ne))
]

-- an item with a group is in the list
pub from_in : (n : ℕ) (ws list : List ℕ) (x from : ℕ) → WordsKeepList n ws list → x < n → from ≡ (labels n ws).group x → (from ≡ 0 → ⊥) → member x list ≡ true
from_in n ws list x from s below e ne = elim (cases_Bool (member x list)) [ inl t ↦ t | inr o ↦ absurd (ne (e ∙ s.outside x below o)) ]

-- what the program counts as x moves: the new group and the old one are within the sizes, and not empty
pub record Moving (n : ℕ) (ws list sizes : List ℕ) (x p from to : ℕ) : Type 0 where
  pub to_used : 0 < get_or sizes to 0
  pub to_in : to < length sizes
  pub to_low : 0 < to
  pub from_used : (from ≡ 0 → ⊥) → 0 < get_or (set sizes to (get_or sizes to 0 + 1)) from 0
  pub from_within : (from ≡ 0 → ⊥) → from < length (set sizes to (get_or sizes to 0 + 1))

-- the new group and the old one of x are within the sizes, and not empty
pub groups-moving : (n : ℕ) (ws list sizes : List ℕ) (x p from to : ℕ) → WordsKeepList n ws list → x < n → member p list ≡ true → AreGroupSizes n ws list sizes
    → from ≡ (labels n ws).group x → to ≡ (labels n ws).group p → Moving n ws list sizes x p from to
groups-moving n ws list sizes x p from to s below p-in t from-is to-is =
    let placed : Placed n (labels n ws) p = s.inside p p-in in
    let to-in : to < length sizes = omega (arith, placed.group_high, t.length_is) in
    record {
      to_used = omega (arith, used_size n ws list sizes p s t p-in, ap (λ g. get_or sizes g 0) to-is);
      to_in = to-in;
      to_low = omega (arith, placed.group_low);
      from_used = λ ne. omega (
        arith,
        size-bumped sizes to from to-in,
        used_size n ws list sizes x s t (from_in n ws list x from s below from-is ne),
        ap (λ g. get_or sizes g 0) from-is,
      );
      from_within = λ ne. let q : Placed n (labels n ws) x = s.inside x (from_in n ws list x from s below from-is ne) in
          omega (arith, q.group_high, t.length_is, length-set sizes to (get_or sizes to 0 + 1));
    }

-- the sizes after an item that was in the list moves
pub moved_in : (n : ℕ) (ws vs list sizes : List ℕ) (x p v from to : ℕ) → WordsKeepList n ws list → x < n → member p list ≡ true → (x ≡ p → ⊥)
    → AreGroupSizes n ws list sizes → TakesItem n ws list x p → vs ≡ set ws (1 + x) v → (labels n vs).group x ≡ (labels n ws).group p
    → from ≡ (labels n ws).group x → to ≡ (labels n ws).group p → (from ≡ 0 → ⊥)
    → AreGroupSizes n vs (right_after x p (without x list))
    (set (set sizes to (get_or sizes to 0 + 1)) from (get_or (set sizes to (get_or sizes to 0 + 1)) from 0 - 1))
moved_in n ws vs list sizes x p v from to s below p-in ne t takes e group from-is to-is some =
    let m = groups-moving n ws list sizes x p from to s below p-in t from-is to-is in
    let mid = set sizes to (get_or sizes to 0 + 1) in
    let from-0 : 0 ≢ from = λ z. some (sym z) in
    let to-0 : 0 ≢ to = (let l = m.to_low in omega arith) in
    tally_moved n ws vs list sizes (set (set sizes to (get_or sizes to 0 + 1)) from (get_or (set sizes to (get_or sizes to 0 + 1)) from 0 - 1)) x p v from to
    s below p-in ne t takes e group from-is to-is
    (length-set (set sizes to (get_or sizes to 0 + 1)) from (get_or (set sizes to (get_or sizes to 0 + 1)) from 0 - 1)
    ∙ length-set sizes to (get_or sizes to 0 + 1))
    (get_or-set_other (set sizes to (get_or sizes to 0 + 1)) from 0 (get_or (set sizes to (get_or sizes to 0 + 1)) from 0 - 1) 0 from-0
    ∙ get_or-set_other sizes to 0 (get_or sizes to 0 + 1) 0 to-0)
    (λ k low. size-dropped (set sizes to (get_or sizes to 0 + 1)) from k (m.from_within some) (m.from_used some) ∙ size-bumped sizes to k m.to_in)

-- the sizes after an item that was out is put in
pub moved_new : (n : ℕ) (ws vs list sizes : List ℕ) (x p v from to : ℕ) → WordsKeepList n ws list → x < n → member p list ≡ true → (x ≡ p → ⊥)
    → AreGroupSizes n ws list sizes → TakesItem n ws list x p → vs ≡ set ws (1 + x) v → (labels n vs).group x ≡ (labels n ws).group p
    → from ≡ (labels n ws).group x → to ≡ (labels n ws).group p → from ≡ 0
    → AreGroupSizes n vs (right_after x p (without x list)) (set sizes to (get_or sizes to 0 + 1))
moved_new n ws vs list sizes x p v from to s below p-in ne t takes e group from-is to-is none =
    let m = groups-moving n ws list sizes x p from to s below p-in t from-is to-is in
    let to-0 : 0 ≢ to = (let l = m.to_low in omega arith) in
    tally_moved n ws vs list sizes (set sizes to (get_or sizes to 0 + 1)) x p v from to s below p-in ne t takes e group from-is to-is
    (length-set sizes to (get_or sizes to 0 + 1)) (get_or-set_other sizes to 0 (get_or sizes to 0 + 1) 0 to-0)
    (λ k low. let f : from ≢ k = omega arith in rw (ne_eqb from k f) (omega (arith, size-bumped sizes to k m.to_in)))
