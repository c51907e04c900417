-- The opening list of words that order a list is that list.
use Rattle.std.proofs.Common.{◌≡◌, ℕ, zero, suc, ◌+◌, ◌*◌, ◌<◌, ◌≤◌, true, false, cond, List, [], ◌∷◌, length, get_or, eqb, ltb, refl, sym, ap, ◌∙◌}
use Rattle.std.proofs.Common.{subst, inl, inr, arith}
use Rattle.std.proofs.lemmas.Bool.{cases_Bool, cases_eq, eqb-true, eqb-false, ltb-true, ltb-false, false≢true}
use Rattle.kc_lists.specs.Lists.{member, Follows, InOrder}
use Rattle.kc_lists.proofs.Members.{member-head, member-tail, member-cases}
use Rattle.kc_words.specs.Order.{Labels, labels, PairBelow, Ordered}
use Rattle.kc_words.specs.ItemWord.{item_of}
use Rattle.kc_words.specs.VertexWord.{vertex_of}
use Rattle.kc_words.specs.declared.shape.Shape.{Shape}
use Rattle.kc_list.specs.Plain.{Plain}
use Rattle.kc_list.specs.Sheets.{version}
use Rattle.kc_table.specs.Legal as legal
use Rattle.kc_table.specs.Log.{TableName, Seen}
use Rattle.kc_table.specs.TableState.{is_below, placed, listed, opened, state_of}
use Rattle.kc_table.proofs.LegalLogs.{legal-nil, state_of-nil}
use Rattle.kc_order.specs.Writers.{AreOpeningWords, Tied}
use Rattle.kc_order.proofs.Relabelling.{ordered-agree}
use Rattle.kc_table.proofs.Listed.{member-placed, placed-member, listed-within}
use Rattle.kc_words.proofs.Ordering.{Follows-all, InOrder-tail, PairBelow-asym}
use Rattle.kc_order.proofs.SteadyLoads.{pair-trans, one-less}

-- where the test of two pairs is passed, the first is less
below-true : (a : Labels) (x y : ℕ) → is_below a x y ≡ true → PairBelow a x y
below-true a x y h =
    elim (cases_Bool (eqb (a.top (a.group x)) (a.top (a.group y)))) [
      | inl t ↦ inr (eqb-true _ _ t, ltb-true _ _ (sym (ap (λ b. cond b (ltb (a.bottom x) (a.bottom y)) (ltb (a.top (a.group x)) (a.top (a.group y)))) t) ∙ h))
      | inr f ↦ inl (ltb-true _ _ (sym (ap (λ b. cond b (ltb (a.bottom x) (a.bottom y)) (ltb (a.top (a.group x)) (a.top (a.group y)))) f) ∙ h))
    ]

-- where the test of two pairs fails, the first is not less
below-false : (a : Labels) (x y : ℕ) → is_below a x y ≡ false → PairBelow a x y → ⊥
below-false a x y h less =
    elim (cases_Bool (eqb (a.top (a.group x)) (a.top (a.group y)))) [
      | inl t ↦
          let up = ltb-false _ _ (sym (ap (λ b. cond b (ltb (a.bottom x) (a.bottom y)) (ltb (a.top (a.group x)) (a.top (a.group y)))) t) ∙ h) in
          let same = eqb-true _ _ t in
          elim less [ inl lt ↦ omega (arith, lt, same) | inr e ↦ omega (arith, e.1, up) ]
      | inr f ↦
          let up = ltb-false _ _ (sym (ap (λ b. cond b (ltb (a.bottom x) (a.bottom y)) (ltb (a.top (a.group x)) (a.top (a.group y)))) f) ∙ h) in
          let differ = eqb-false _ _ f in
          elim less [ inl lt ↦ omega (arith, lt, up) | inr e ↦ differ e.0 ]
    ]

-- two lists in one order with the same members are equal
same-order : (R : ℕ → ℕ → Type 0) → ((x y z : ℕ) → R x y → R y z → R x z) → ((x y : ℕ) → R x y → R y x → ⊥) → (xs ys : List ℕ) → InOrder R xs → InOrder R ys
    → ((z : ℕ) → member z xs ≡ true → member z ys ≡ true) → ((z : ℕ) → member z ys ≡ true → member z xs ≡ true) → xs ≡ ys
same-order R t asym [] [] p q f g = refl
same-order R t asym [] (y ∷ ys) p q f g = absurd (false≢true (g y (member-head y ys)))
same-order R t asym (x ∷ xs) [] p q f g = absurd (false≢true (f x (member-head x xs)))
same-order R t asym (x ∷ xs) (y ∷ ys) p q f g =
    let heads : x ≡ y = elim (member-cases x y ys (f x (member-head x xs))) [
      | inl e ↦ e
      | inr x-later ↦ elim (member-cases y x xs (g y (member-head y ys))) [
        | inl e ↦ sym e
        | inr y-later ↦ absurd (asym x y (Follows-all R t x y xs p y-later) (Follows-all R t y x ys q x-later))
      ]
    ] in
    let lower : (z : ℕ) → member z xs ≡ true → member z ys ≡ true = λ z m. elim (member-cases z y ys (f z (member-tail z x xs m))) [
      | inl e ↦ absurd (let r : R x x = subst (R x) (e ∙ sym heads) (Follows-all R t x z xs p m) in asym x x r r)
      | inr k ↦ k
    ] in
    let upper : (z : ℕ) → member z ys ≡ true → member z xs ≡ true = λ z m. elim (member-cases z x xs (g z (member-tail z y ys m))) [
      | inl e ↦ absurd (let r : R y y = subst (R y) (e ∙ heads) (Follows-all R t y z ys q m) in asym y y r r)
      | inr k ↦ k
    ] in
    ap (λ z. z ∷ xs) heads ∙ ap (λ zs. y ∷ zs) (same-order R t asym xs ys (InOrder-tail R x xs p) (InOrder-tail R y ys q) lower upper)

-- what follows an item in order still does with one of a greater pair placed in it by its pair
follows-placed : (a : Labels) (w x : ℕ) (zs : List ℕ) → PairBelow a w x → Follows (PairBelow a) w zs → InOrder (PairBelow a) zs
    → ((z : ℕ) → member z zs ≡ true → is_below a x z ≡ false → PairBelow a z x) → Follows (PairBelow a) w (placed a x zs)
follows-placed a w x [] h p q f = (h, tt)
follows-placed a w x (z ∷ zs) h p q f =
    elim (cases_Bool (is_below a x z)) [
      | inl t ↦ rw t (h, (below-true a x z t, p.1))
      | inr isnt ↦ rw isnt (
        p.0,
        follows-placed a z x zs (f z (member-head z zs) isnt) p.1 (InOrder-tail (PairBelow a) z zs q)
            (λ y m. f y (member-tail y z zs m)),
      )
    ]

-- a list in order stays so where an item is placed by its pair
in_order-placed : (a : Labels) (x : ℕ) (zs : List ℕ) → InOrder (PairBelow a) zs
    → ((z : ℕ) → member z zs ≡ true → is_below a x z ≡ false → PairBelow a z x) → InOrder (PairBelow a) (placed a x zs)
in_order-placed a x [] h f = tt
in_order-placed a x (z ∷ zs) h f =
    elim (cases_Bool (is_below a x z)) [
      | inl t ↦ rw t (below-true a x z t, h)
      | inr isnt ↦ rw isnt (follows-placed a z x zs (f z (member-head z zs) isnt) h (InOrder-tail (PairBelow a) z zs h) (λ y m. f y (member-tail y z zs m)))
    ]

module _ (n : ℕ) (ws order : List ℕ) (o : Ordered n ws order) where
  -- the labels of the opening words
  abbrev a : Labels
  a = labels n ws

  -- an item below n is listed exactly where it is in the order
  in-order : (x : ℕ) → x < n → (a.group x ≡ 0 → ⊥) → member x order ≡ true
  in-order x l some = elim (cases_Bool (member x order)) [ inl m ↦ m | inr m ↦ absurd (some (o.outside x l m)) ]

  -- each item that is listed is in the order
  listed-in : (k x : ℕ) → k ≤ n → member x (listed a k) ≡ true → member x order ≡ true
  listed-in zero x l m = absurd (false≢true m)
  listed-in (suc k) x l m =
      elim (cases_Bool (eqb (a.group k) 0)) [
        | inl t ↦ listed-in k x (omega (arith, l)) (sym (ap (λ b. member x (cond b (listed a k) (placed a k (listed a k)))) t) ∙ m)
        | inr f ↦ elim (member-placed a x k (listed a k) (sym (ap (λ b. member x (cond b (listed a k) (placed a k (listed a k)))) f) ∙ m)) [
          | inl e ↦ ap (λ z. member z order) e ∙ in-order k (omega (arith, l)) (eqb-false _ _ f)
          | inr m' ↦ listed-in k x (omega (arith, l)) m'
        ]
      ]

  -- each item of the order is listed
  in-listed : (k x : ℕ) → k ≤ n → x < k → member x order ≡ true → member x (listed a k) ≡ true
  in-listed zero x l below m = absurd (omega (arith, below))
  in-listed (suc k) x l below m =
      elim (cases_Bool (eqb (a.group k) 0)) [
        | inl t ↦ ap (λ b. member x (cond b (listed a k) (placed a k (listed a k)))) t ∙ elim (cases_eq x k) [
          | inl e ↦ absurd (omega (arith, (o.inside x m).0, ap a.group e, eqb-true _ _ t))
          | inr ne ↦ in-listed k x (omega (arith, l)) (omega (arith, below, ne)) m
        ]
        | inr f ↦ ap (λ b. member x (cond b (listed a k) (placed a k (listed a k)))) f ∙ placed-member a x k (listed a k) (elim (cases_eq x k) [
          | inl e ↦ inl e
          | inr ne ↦ inr (in-listed k x (omega (arith, l)) (omega (arith, below, ne)) m)
        ])
      ]

  -- what is listed is in the order of its labels
  in_order-listed : (k : ℕ) → k ≤ n → InOrder (PairBelow a) (listed a k)
  in_order-listed zero l = tt
  in_order-listed (suc k) l =
      elim (cases_Bool (eqb (a.group k) 0)) [
        | inl t ↦ rw t (in_order-listed k (omega (arith, l)))
        | inr f ↦ rw f (in_order-placed a k (listed a k) (in_order-listed k (omega (arith, l))) (λ z m isnt.
            let low : z < k = listed-within a k z m in
            elim (one-less a k z order o.pairs (in-order k (omega (arith, l)) (eqb-false _ _ f)) (listed-in k z (omega (
              arith,
              l,
            )) m) (λ e. omega (arith, e, low))) [
              | inl less ↦ absurd (below-false a k z isnt less)
              | inr more ↦ more
            ]))
      ]

  -- the list of the opening words is the order
  pub listed-is : ((x : ℕ) → member x order ≡ true → x < n) → listed a n ≡ order
  listed-is within = same-order (PairBelow a) (pair-trans a) (PairBelow-asym a) (listed a n) order (in_order-listed n (omega arith)) o.pairs
      (λ z m. listed-in n z (omega arith) m) (λ z m. in-listed n z (omega arith) (within z m) m)

-- words that are made of a plain list's open a table with its list
pub record Opening (shape : Shape) (words : List ℕ) (order : List ℕ) : Type 0 where
  pub opens : legal.IsTableOpening shape words
  pub list : listed (labels shape.items words) shape.items ≡ order

-- words made of a plain list's, no note and the vertices' words open a table with its list
pub opening-of : (shape : Shape) (plain : Plain) (words order vertex : List ℕ) → AreOpeningWords words plain.words vertex shape.items
    → ((w : ℕ) → 1 ≤ w → w ≤ 2 * shape.items + 1 → version plain.words w ≡ shape.version) → Ordered shape.items plain.words order
    → ((x : ℕ) → member x order ≡ true → x < shape.items)
    → ((v : ℕ) → v < shape.fixed → member v order ≡ true) → length vertex ≡ shape.fixed
    → ((v : ℕ) → v < shape.fixed → (vertex_of (get_or vertex v 0)).stamp ≤ shape.base) → Opening shape words order
opening-of shape plain words order vertex h versions o within vertices long stamps =
    let agree : (w : ℕ) → 1 ≤ w → w < 2 * shape.items + 2 → get_or words w 0 ≡ get_or plain.words w 0 =
    h.listed in
    let ordered : Ordered shape.items words order = ordered-agree shape.items plain.words words order o within agree in
    let list : listed (labels shape.items words) shape.items ≡ order = listed-is shape.items words order ordered within in
    record {
      opens = record {
        one_each = omega (arith, h.long, long);
        no_note = h.note;
        versions = λ w k. ap (λ z. (item_of z).version) (agree w k.0 k.1) ∙ versions w k.0 (omega (arith, k.1));
        vertices = λ v l. ap (member v) list ∙ vertices v l;
        holds = record {
          ordered = subst (Ordered shape.items words) (sym list) ordered;
          stamps = λ v l. omega (arith, ap (λ z. (vertex_of z).stamp) (h.vertices v (omega (arith, l, long))), stamps v l);
        };
      };
      list = list;
    }

-- the plain list with whose words a table opens is tied to its empty log
pub tied-open : (shape : Shape) (plain : Plain) (words order vertex : List ℕ) (table : TableName) (seen : Seen) → Opening shape words order
    → AreOpeningWords words plain.words vertex shape.items
    → plain.items ≡ shape.items → plain.fixed ≡ shape.fixed → plain.list ≡ order → length plain.words ≡ 2 * shape.items + 2 → version plain.words 0 ≡ 0
    → (table.shape ≡ shape) × (table.opening ≡ words) → seen ≡ record { table = table; log = [] } → Tied seen plain
tied-open shape plain words order vertex table seen opening h items fixed list long note named is =
    subst (λ (z : Seen). Tied z plain) (sym is) (made table named.0 named.1)
  where
    made : (t : TableName) → t.shape ≡ shape → t.opening ≡ words → Tied (record { table = t; log = [] }) plain
    made t s o =
        let lawful : legal.Legal t.shape t.opening [] =
        subst (λ (z : Shape × List ℕ). legal.Legal z.0 z.1 []) (λ i. (sym s i, sym o i)) (legal-nil shape words opening.opens) in
        let begun : state_of t.shape t.opening [] ≡ opened t.shape t.opening = state_of-nil t.shape t.opening in
        record {
          legal = lawful;
          items = items ∙ ap (λ (z : Shape). z.items) (sym s);
          fixed = fixed ∙ ap (λ (z : Shape). z.fixed) (sym s);
          list =
              list
              ∙
              (sym opening.list
              ∙
              (ap (λ (z : Shape × List ℕ). listed (labels z.0.items z.1) z.0.items) (λ i. (sym s i, sym o i))
              ∙ ap (λ z. z.list) (sym begun)));
          long = long ∙ ap (λ (z : Shape). 2 * z.items + 2) (sym s);
          words =
              λ w k.
              sym (h.listed w k.0 (omega (arith, k.1, ap (λ (z : Shape). z.items) s))) ∙ ap (λ l. get_or l w 0) (sym o);
          note = note;
          quiet = λ w. subst (λ z. legal.FollowsNote z.note w) (sym begun) tt;
        }
