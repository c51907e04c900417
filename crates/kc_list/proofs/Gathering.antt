-- The members of a group stand together.
use Rattle.std.proofs.Common.{◌≡◌, ℕ, suc, ◌+◌, ◌<◌, ◌≤◌, true, List, [], ◌∷◌, ◌++◌, length, set, take, refl, sym, ◌∙◌, ap, subst, ◌⊎◌, inl, inr, arith}
use Rattle.std.proofs.lemmas.Bool.{eq-eqb, cases_eq, false≢true}
use Rattle.std.proofs.lemmas.List.{append_assoc, length-append, take_more_set}
use Rattle.kc_lists.specs.Lists.{member, Distinct, last_or, prev_of, head_or, next_of, place_of, InOrder}
use Rattle.kc_lists.proofs.Members.{member-head, member-tail, member-cases, member-append_left, member-append_right, member-cut}
use Rattle.kc_lists.proofs.Members.{Distinct-cut, prev_of-cut, next_of-cut, prev-place, some_or_none, last_or-push}
use Rattle.kc_lists.proofs.Counting.{member-push_cases}
use Rattle.kc_words.specs.Order.{Labels, labels}
use Rattle.kc_list.specs.Places.{Before, WordsKeepList, Segment, First, size_of}
use Rattle.kc_list.proofs.Order.{order-parts, Before-then}
use Rattle.kc_words.proofs.Ordering.{Follows-all, InOrder-tail}

-- by a relation that goes on, what stands before y in a list in order is related to y
pub all_before : (R : ℕ → ℕ → Type 0) → ((x y z : ℕ) → R x y → R y z → R x z) → (z y : ℕ) (l r : List ℕ) → InOrder R (l ++ y ∷ r) → member z l ≡ true → R z y
all_before R t z y [] r h m = absurd (false≢true m)
all_before R t z y (x ∷ l) r h m =
    elim (member-cases z x l m) [
      | inl e ↦ subst (λ u. R u y) (sym e) (Follows-all R t x y (l ++ y ∷ r) h (member-append_right y l (y ∷ r) (member-head y r)))
      | inr k ↦ all_before R t z y l r (InOrder-tail R x (l ++ y ∷ r) h) k
    ]

-- an item of a group is its first where what stands right before it is of another group
pub first_found : (n : ℕ) (ws list : List ℕ) (g x q : ℕ) → WordsKeepList n ws list → member x list ≡ true → (labels n ws).group x ≡ g → q ≡ prev_of n x list
    → ((q ≡ n → ⊥) → (labels n ws).group q ≡ g → ⊥) → First (labels n ws) list g x
first_found n ws list g x q s m x-g q-is stop =
    let a = labels n ws in
    let c = member-cut x list m in
    let apart = Distinct-cut x c.front c.back (subst Distinct c.is s.distinct) in
    let is : q ≡ last_or n c.front = q-is ∙ (ap (prev_of n x) c.is ∙ prev_of-cut n x c.front c.back apart.0) in
    record {
      front = c.front;
      back = c.back;
      is = c.is;
      group = x-g;
      none = elim (some_or_none c.front) [
        | inl none ↦ λ y k e. false≢true (ap (member y) (sym none) ∙ k)
        | inr w ↦ λ y k e.
            let last : q ≡ w.last = is ∙ (ap (last_or n) w.is ∙ last_or-push n w.front w.last) in
            let split : list ≡ w.front ++ w.last ∷ (x ∷ c.back) = c.is ∙ (ap (λ zs. zs ++ x ∷ c.back) w.is ∙ append_assoc w.front (w.last ∷ []) (x ∷ c.back)) in
            let order : InOrder (Before a) (w.front ++ w.last ∷ (x ∷ c.back)) = subst (InOrder (Before a)) split s.order in
            let last-in : member w.last list ≡ true = ap (member w.last) split
            ∙ member-append_right w.last w.front (w.last ∷ x ∷ c.back) (member-head w.last (x ∷ c.back)) in
            let q-n : q ≡ n → ⊥ = λ z. let b : w.last < n = (s.inside w.last last-in).below in absurd (let u : w.last ≡ n = sym last ∙ z in omega arith) in
            let other : a.group w.last ≡ g → ⊥ = λ z. stop q-n (ap a.group last ∙ z) in
            let step : Before a w.last x = ((order-parts (Before a) w.front (w.last ∷ x ∷ c.back) order).right).0 in
            let below : a.top (a.group w.last) < a.top g = elim step [ inl t ↦ absurd (other (t.0 ∙ x-g)) | inr t ↦ omega (arith, t, ap a.top x-g) ] in
            elim (member-push_cases y w.last w.front (ap (member y) (sym w.is) ∙ k)) [
              | inl in-front ↦ elim (all_before (Before a) (Before-then a) y w.last w.front (x ∷ c.back) order in-front) [
                | inl t ↦ absurd (other (sym t.0 ∙ e))
                | inr t ↦ absurd (let u = ap a.top e in omega (arith, t, below, u))
              ]
              | inr is-last ↦ absurd (other (ap a.group (sym is-last) ∙ e))
            ]
      ];
    }

-- what stands right before an item is in the list, one place nearer its start
pub back_facts : (n : ℕ) (ws list : List ℕ) (first before : ℕ) → WordsKeepList n ws list → member first list ≡ true → before ≡ prev_of n first list
    → (before ≡ n → ⊥) → (member before list ≡ true) × (before < n) × (suc (place_of before list) ≡ place_of first list)
back_facts n ws list first before s m is ne =
    let k = prev-place n first list s.distinct m (λ y y-in e. let b : y < n = (s.inside y y-in).below in absurd (omega arith)) (λ e. ne (is ∙ e)) in
    let in' : member before list ≡ true = ap (λ z. member z list) is ∙ k.0 in
    (in', (s.inside before in').below, ap (λ z. suc (place_of z list)) is ∙ k.1)

-- so far: `m` was collected, and x comes next
pub record Collected (n : ℕ) (a : Labels) (list : List ℕ) (g x : ℕ) (m : List ℕ) : Type 0 where
  pub front : List ℕ
  pub rest : List ℕ
  pub is : list ≡ front ++ (m ++ rest)
  pub members : (y : ℕ) → member y m ≡ true → a.group y ≡ g
  pub none : (y : ℕ) → member y front ≡ true → a.group y ≡ g → ⊥
  pub head : x ≡ head_or n rest

-- the size of a group in two lists joined is the sum of its sizes in both
pub size-append : (f : ℕ → ℕ) (g : ℕ) (xs ys : List ℕ) → size_of f g (xs ++ ys) ≡ size_of f g xs + size_of f g ys
size-append f g [] ys = omega arith
size-append f g (x ∷ xs) ys = omega (arith, size-append f g xs ys)

-- where all items of a list are in one group, its size is the length of the list
pub size-all : (f : ℕ → ℕ) (g : ℕ) (xs : List ℕ) → ((y : ℕ) → member y xs ≡ true → f y ≡ g) → size_of f g xs ≡ length xs
size-all f g [] h = refl
size-all f g (x ∷ xs) h = rw (eq-eqb (f x) g (h x (member-head x xs))) (omega (arith, size-all f g xs (λ y k. h y (member-tail y x xs k))))

-- at the first item of a group nothing is collected yet
pub collected-none : (n : ℕ) (a : Labels) (list : List ℕ) (g x : ℕ) → First a list g x → Collected n a list g x []
collected-none n a list g x f = record { front = f.front; rest = x ∷ f.back; is = f.is; members = λ y k. absurd (false≢true k); none = f.none; head = refl }

-- one item more is collected, which is in the list; no more are collected than the group has
pub record CollectStep (n : ℕ) (a : Labels) (list : List ℕ) (g x : ℕ) (m : List ℕ) : Type 0 where
  pub below : x < n
  pub x_in : member x list ≡ true
  pub size : length m + 1 ≤ size_of a.group g list
  pub more : Collected n a list g (next_of n x list) (m ++ x ∷ [])
  pub length_less : length m < length list

-- what is left begins with x
pub cons_rest : (n x : ℕ) (rest : List ℕ) → x ≡ head_or n rest → (x ≡ n → ⊥) → (r : List ℕ) × (rest ≡ x ∷ r)
cons_rest n x [] e ne = absurd (ne e)
cons_rest n x (y ∷ r) e ne = (r, ap (λ z. z ∷ r) (sym e))

-- the list where `x` comes next behind the front and what was collected
record NextItem (list front m : List ℕ) (x : ℕ) (rest : List ℕ) : Type 0 where
  pub back : List ℕ
  pub rest_is : rest ≡ x ∷ back
  pub is : list ≡ front ++ (m ++ x ∷ back)
  pub behind : list ≡ (front ++ m) ++ x ∷ back

-- where the end does not come next, an item does
next_item : (n : ℕ) (a : Labels) (list : List ℕ) (g x : ℕ) (m : List ℕ) (c : Collected n a list g x m) → (x ≡ n → ⊥) → NextItem list c.front m x c.rest
next_item n a list g x m c ne =
    let (back, rest-is) = cons_rest n x c.rest c.head ne in
    let is : list ≡ c.front ++ (m ++ x ∷ back) = c.is ∙ ap (λ zs. c.front ++ (m ++ zs)) rest-is in
    record { back = back; rest_is = rest-is; is = is; behind = is ∙ sym (append_assoc c.front m (x ∷ back)) }

-- what comes next, where it is not the end, is an item of the list
pub collect_in : (n : ℕ) (ws list : List ℕ) (g x : ℕ) (m : List ℕ) → WordsKeepList n ws list → Collected n (labels n ws) list g x m → (x ≡ n → ⊥)
    → (member x list ≡ true) × (x < n)
collect_in n ws list g x m s c ne =
    let t = next_item n (labels n ws) list g x m c ne in
    let in' : member x list ≡ true =
    ap (member x) t.is ∙ member-append_right x c.front (m ++ x ∷ t.back) (member-append_right x m (x ∷ t.back) (member-head x t.back)) in
    (in', (s.inside x in').below)

-- what comes next is collected where it is of the group
pub collect_step : (n : ℕ) (ws list : List ℕ) (g x : ℕ) (m : List ℕ) → WordsKeepList n ws list → Collected n (labels n ws) list g x m → (x ≡ n → ⊥)
    → (labels n ws).group x ≡ g → CollectStep n (labels n ws) list g x m
collect_step n ws list g x m s c ne x-g =
    let a = labels n ws in
    let k = collect_in n ws list g x m s c ne in
    let t = next_item n a list g x m c ne in
    let pushed : list ≡ c.front ++ ((m ++ x ∷ []) ++ t.back) = t.is ∙ ap (λ zs. c.front ++ zs) (sym (append_assoc m (x ∷ []) t.back)) in
    let apart = Distinct-cut x (c.front ++ m) t.back (subst Distinct t.behind s.distinct) in
    let all : (y : ℕ) → member y (m ++ x ∷ []) ≡ true → a.group y ≡ g =
    λ y q. elim (member-push_cases y x m q) [ inl p ↦ c.members y p | inr e ↦ ap a.group e ∙ x-g ] in
    record {
      below = k.1;
      x_in = k.0;
      size = omega (
        arith,
        ap (size_of a.group g) pushed,
        size-append a.group g c.front ((m ++ x ∷ []) ++ t.back),
        size-append a.group g (m ++ x ∷ []) t.back,
        size-all a.group g (m ++ x ∷ []) all,
        length-append m (x ∷ []),
      );
      more = record {
        front = c.front;
        rest = t.back;
        is = pushed;
        members = all;
        none = c.none;
        head = ap (next_of n x) t.behind
            ∙ next_of-cut n x (c.front ++ m) t.back apart.0;
      };
      length_less = omega (arith, ap length t.is, length-append c.front (m ++ x ∷ t.back), length-append m (x ∷ t.back));
    }

-- where the end comes next, no item is left
none_left : (n x : ℕ) (rest : List ℕ) → x ≡ head_or n rest → x ≡ n → ((z : ℕ) → member z rest ≡ true → z ≡ n → ⊥) → (y : ℕ) → member y rest ≡ true → ⊥
none_left n x [] e w f y m = false≢true m
none_left n x (z ∷ r) e w f y m = f z (member-head z r) (sym e ∙ w)

-- where what comes next is not of the group, no item that is left is of it
rest_none : (n : ℕ) (ws list : List ℕ) (g x some : ℕ) (m : List ℕ) → WordsKeepList n ws list → (c : Collected n (labels n ws) list g x m)
    → ((x ≡ n → ⊥) → (labels n ws).group x ≡ g → ⊥) → member some m ≡ true → (y : ℕ) → member y c.rest ≡ true → (labels n ws).group y ≡ g → ⊥
rest_none n ws list g x some m s c stop some-in y y-in y-g =
    let a = labels n ws in
    elim (cases_eq x n) [
      | inl e ↦ none_left n x c.rest c.head e
          (λ z k. let q : z < n = (s.inside z (ap (member z) c.is ∙ member-append_right z c.front (m ++ c.rest) (member-append_right z m c.rest k))).below in
          (λ w. absurd (omega arith))) y y-in
      | inr ne ↦
          let t = next_item n a list g x m c ne in
          let other : a.group x ≡ g → ⊥ = stop ne in
          let cut-some = member-cut some m some-in in
          let order : InOrder (Before a) ((c.front ++ m) ++ x ∷ t.back) = subst (InOrder (Before a)) t.behind s.order in
          let up : a.top g < a.top (a.group x) =
          elim (all_before (Before a) (Before-then a) some x (c.front ++ m) t.back order (member-append_right some c.front m some-in)) [
            | inl same ↦ absurd (other (sym same.0 ∙ c.members some some-in))
            | inr less ↦ omega (arith, less, ap a.top (c.members some some-in))
          ] in
          elim (member-cases y x t.back (ap (member y) (sym t.rest_is) ∙ y-in)) [
            | inl e ↦ other (ap a.group (sym e) ∙ y-g)
            | inr k ↦ elim (Follows-all (Before a) (Before-then a) x y t.back ((order-parts (Before a) (c.front ++ m) (x ∷ t.back) order).right) k) [
              | inl same ↦ other (same.0 ∙ y-g)
              | inr less ↦ absurd (let u = ap a.top y-g in omega (arith, less, up, u))
            ]
          ]
    ]

-- where what comes next is not of the group, what was collected are all its members
pub members-collected : (n : ℕ) (ws list : List ℕ) (g x : ℕ) (m : List ℕ) → WordsKeepList n ws list → Collected n (labels n ws) list g x m
    → ((x ≡ n → ⊥) → (labels n ws).group x ≡ g → ⊥) → (y : ℕ) → member y m ≡ true → Segment (labels n ws) list g m
members-collected n ws list g x m s c stop some some-in =
    let a = labels n ws in
    record {
      front = c.front;
      back = c.rest;
      is = c.is;
      members = c.members;
      others = λ y k e. elim k [
        | inl p ↦ c.none y p e
        | inr p ↦ rest_none n ws list g x some m s c stop some-in y p e
      ];
    }

-- once one more is collected, the first is among those collected
pub collecting-begun : (x count first : ℕ) (into : List ℕ) → count < length into → ((count ≡ 0) × (x ≡ first)) ⊎ (member first (take count into) ≡ true)
    → member first (take (count + 1) (set into count x)) ≡ true
collecting-begun x count first into l h =
    ap (member first) (take_more_set into count x l) ∙ elim h [
      | inl e ↦ member-append_right first (take count into) (x ∷ []) (ap (λ z. member first (z ∷ [])) e.1 ∙ member-head first [])
      | inr m ↦ member-append_left first (take count into) (x ∷ []) m
    ]

-- what was gathered from the first item of a group on, until no more of it comes, are all its members
pub members-gathered : (n : ℕ) (ws list : List ℕ) (g x first count : ℕ) (into : List ℕ) → WordsKeepList n ws list → First (labels n ws) list g first
    → Collected n (labels n ws) list g x (take count into) → ((x ≡ n → ⊥) → (labels n ws).group x ≡ g → ⊥)
    → ((count ≡ 0) × (x ≡ first)) ⊎ (member first (take count into) ≡ true) → Segment (labels n ws) list g (take count into)
members-gathered n ws list g x first count into s f c stop h =
    elim h [
      | inl e ↦
          let first-in : member first list ≡ true = ap (member first) f.is ∙ member-append_right first f.front (first ∷ f.back) (member-head first f.back) in
          let below : first < n = (s.inside first first-in).below in
          let ne : x ≡ n → ⊥ = λ w. absurd (let u : x ≡ first = e.1 in omega arith) in
          absurd (stop ne (ap (labels n ws).group e.1 ∙ f.group))
      | inr m ↦ members-collected n ws list g x (take count into) s c stop first m
    ]
