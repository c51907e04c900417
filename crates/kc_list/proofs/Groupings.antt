-- The groups in use, one after another.
use Rattle.std.proofs.Common.{◌≡◌, ◌≢◌, ℕ, suc, zero, ◌+◌, ◌*◌, ◌/◌, ◌<◌, ◌≤◌, true, false, cond, List, [], ◌∷◌, ◌++◌, length, get_or, map, eqb}
use Rattle.std.proofs.Common.{refl, sym, ◌∙◌, ap, subst, inl, inr, arith, mul-le-mul_right}
use Rattle.std.proofs.lemmas.Bool.{eqb-true, eqb-false, ne_eqb, eq-eqb, cases_lt, cases_Bool, false≢true}
use Rattle.std.proofs.lemmas.List.{append_assoc, append-nil, length-append, get_or-map}
use Rattle.std.proofs.lemmas.Nat.{le-div, div-add-mod'}
use Rattle.kc_relabel.specs.Labels.{Ascends}
use Rattle.kc_relabel.proofs.Rising.{Ascends-low}
use Rattle.kc_lists.specs.Lists.{member, Distinct, head_or, next_of, place_of}
use Rattle.kc_lists.proofs.Members.{member-head, member-cases, member-append_right, Distinct-cut, next_of-cut, place_of-cut, below_bound}
use Rattle.kc_lists.proofs.Members.{place_of-none}
use Rattle.kc_words.specs.Order.{Labels, labels}
use Rattle.kc_list.specs.Places.{WordsKeepList, runs, evens}
use Rattle.kc_list.proofs.Spreading.{Ascends-evens, get_or-evens}
use Rattle.kc_list.proofs.Gathering.{cons_rest}
use Rattle.kc_list.proofs.Counts.{runs_short}
use Rattle.kc_list.proofs.Toplabels.{runs_item}
use Rattle.kc_words.specs.declared.layout.TheConstants.{ITEMS, TOP_ROOM}

-- the groups that follow group `g`
abbrev pub runs_after : ℕ → (ℕ → ℕ) → List ℕ → List ℕ
runs_after g f [] = []
runs_after g f (x ∷ xs) = cond (eqb (f x) g) (runs_after g f xs) (f x ∷ runs_after (f x) f xs)

-- the groups of a list are that of its first item and those that follow it
runs_from : (f : ℕ → ℕ) (x : ℕ) (xs : List ℕ) → runs f (x ∷ xs) ≡ f x ∷ runs_after (f x) f xs
runs_from f x [] = refl
runs_from f x (y ∷ ys) =
    elim (cases_Bool (eqb (f x) (f y))) [
      | inl t ↦
          let e : f x ≡ f y = eqb-true (f x) (f y) t in
          rw (t, eq-eqb (f y) (f x) (sym e)) (runs_from f y ys ∙ ap (λ g. g ∷ runs_after g f ys) (sym e))
      | inr t ↦
          let ne : f y ≡ f x → ⊥ = λ e. eqb-false (f x) (f y) t (sym e) in
          rw (t, ne_eqb (f y) (f x) ne) (ap (λ gs. f x ∷ gs) (runs_from f y ys))
    ]

-- all groups follow group 0, which no item has
runs_all : (f : ℕ → ℕ) (xs : List ℕ) → ((x : ℕ) → member x xs ≡ true → 0 < f x) → runs f xs ≡ runs_after 0 f xs
runs_all f [] h = refl
runs_all f (x ∷ xs) h = let low = h x (member-head x xs) in let ne : f x ≢ 0 = omega arith in runs_from f x xs ∙ rw (ne_eqb (f x) 0 ne) refl

-- so far: `found` are the groups of the items before x, and the last of them is `last`
pub record Grouped (n : ℕ) (a : Labels) (list : List ℕ) (x last : ℕ) (found : List ℕ) : Type 0 where
  pub done : List ℕ
  pub rest : List ℕ
  pub is : list ≡ done ++ rest
  pub head : x ≡ head_or n rest
  pub so_far : found ++ runs_after last a.group rest ≡ runs a.group list

-- before the first item no group is found
pub grouped-none : (n : ℕ) (ws list : List ℕ) → WordsKeepList n ws list → Grouped n (labels n ws) list (head_or n list) 0 []
grouped-none n ws list s = record
    { done = []; rest = list; is = refl; head = refl; so_far = sym (runs_all (labels n ws).group list (λ x m. (s.inside x m).group_low)) }

-- the place of what comes first in a back part is the length of the front
place_of-head : (n : ℕ) (d r : List ℕ) → Distinct (d ++ r) → member n (d ++ r) ≡ false → place_of (head_or n r) (d ++ r) ≡ length d
place_of-head n d [] u m = place_of-none n (d ++ []) m ∙ ap length (append-nil d)
place_of-head n d (x ∷ r) u m = place_of-cut x d r (Distinct-cut x d r u).0

-- what comes next is an item of the list, and what follows it has the next place
pub record GroupStep (n : ℕ) (a : Labels) (list : List ℕ) (x : ℕ) : Type 0 where
  pub below : x < n
  pub x_in : member x list ≡ true
  pub nearer : suc (place_of x list) ≡ place_of (next_of n x list) list
  pub short : place_of x list < length list

-- the list, cut at the item `x` that comes next
record NextCut (n : ℕ) (a : Labels) (list done : List ℕ) (x last : ℕ) (found : List ℕ) : Type 0 where
  pub back : List ℕ
  pub is : list ≡ done ++ x ∷ back
  pub pushed : list ≡ (done ++ x ∷ []) ++ back
  pub first : member x done ≡ false
  pub next : next_of n x list ≡ head_or n back
  pub so_far : found ++ runs_after last a.group (x ∷ back) ≡ runs a.group list

-- where the end does not come next, the list is cut at the item that does
next_cut : (n : ℕ) (ws list : List ℕ) (x last : ℕ) (found : List ℕ) → WordsKeepList n ws list → (g : Grouped n (labels n ws) list x last found) → (x ≡ n → ⊥)
    → NextCut n (labels n ws) list g.done x last found
next_cut n ws list x last found s g ne =
    let r = cons_rest n x g.rest g.head ne in
    let is : list ≡ g.done ++ x ∷ r.0 = g.is ∙ ap (λ zs. g.done ++ zs) r.1 in
    let apart = Distinct-cut x g.done r.0 (subst Distinct is s.distinct) in
    record {
      back = r.0;
      is = is;
      pushed = is ∙ sym (append_assoc g.done (x ∷ []) r.0);
      first = apart.0;
      next = ap (next_of n x) is ∙ next_of-cut n x g.done r.0 apart.0;
      so_far = ap (λ zs. found ++ runs_after last (labels n ws).group zs) (sym r.1) ∙ g.so_far;
    }

-- what comes next, where it is not the end, is an item of the list
pub group_step : (n : ℕ) (ws list : List ℕ) (x last : ℕ) (found : List ℕ) → WordsKeepList n ws list → Grouped n (labels n ws) list x last found → (x ≡ n → ⊥)
    → GroupStep n (labels n ws) list x
group_step n ws list x last found s g ne =
    let cut = next_cut n ws list x last found s g ne in
    let x-in : member x list ≡ true = ap (member x) cut.is ∙ member-append_right x g.done (x ∷ cut.back) (member-head x cut.back) in
    let n-out : member n list ≡ false = elim (cases_Bool (member n list)) [ inl t ↦ absurd (let b = (s.inside n t).below in omega arith) | inr f ↦ f ] in
    let here : place_of x list ≡ length g.done = ap (place_of x) cut.is ∙ place_of-cut x g.done cut.back cut.first in
    let there : place_of (next_of n x list) list ≡ length (g.done ++ x ∷ []) =
    ap (λ y. place_of y list) cut.next
    ∙ (ap (place_of (head_or n cut.back)) cut.pushed
    ∙ place_of-head n (g.done ++ x ∷ []) cut.back (subst Distinct cut.pushed s.distinct) (ap (member n) (sym cut.pushed) ∙ n-out)) in
    record {
      below = (s.inside x x-in).below;
      x_in = x-in;
      nearer = omega (arith, here, there, length-append g.done (x ∷ []));
      short = omega (arith, here, ap length cut.is, length-append g.done (x ∷ cut.back));
    }

-- an item of the group found last adds none
pub grouped-same : (n : ℕ) (ws list : List ℕ) (x last : ℕ) (found : List ℕ) → WordsKeepList n ws list → Grouped n (labels n ws) list x last found → (x ≡ n → ⊥)
    → (labels n ws).group x ≡ last → Grouped n (labels n ws) list (next_of n x list) last found
grouped-same n ws list x last found s g ne e =
    let a = labels n ws in
    let cut = next_cut n ws list x last found s g ne in
    let after : found ++ runs_after last a.group (x ∷ cut.back) ≡ runs a.group list = cut.so_far in
    record { done = g.done ++ x ∷ []; rest = cut.back; is = cut.pushed; head = cut.next; so_far = rw (eq-eqb (a.group x) last e) at after }

-- an item of another group adds its group
pub grouped-new : (n : ℕ) (ws list : List ℕ) (x last : ℕ) (found : List ℕ) → WordsKeepList n ws list → Grouped n (labels n ws) list x last found → (x ≡ n → ⊥)
    → ((labels n ws).group x ≡ last → ⊥) → Grouped n (labels n ws) list (next_of n x list) ((labels n ws).group x) (found ++ (labels n ws).group x ∷ []) ×
    (length found < length list)
grouped-new n ws list x last found s g ne new =
    let a = labels n ws in
    let cut = next_cut n ws list x last found s g ne in
    let after : found ++ runs_after last a.group (x ∷ cut.back) ≡ runs a.group list = cut.so_far in
    let after' : found ++ (a.group x ∷ runs_after (a.group x) a.group cut.back) ≡ runs a.group list = rw (ne_eqb (a.group x) last new) at after in (
      record {
        done = g.done ++ x ∷ [];
        rest = cut.back;
        is = cut.pushed;
        head = cut.next;
        so_far = append_assoc found (a.group x ∷ []) (runs_after (a.group x) a.group cut.back) ∙ after';
      },
      omega (arith, ap length after', length-append found (a.group x ∷ runs_after (a.group x) a.group cut.back), runs_short a.group list),
    )

-- where the end comes next, what is left is empty
none_rest : (n x : ℕ) (rest : List ℕ) → x ≡ head_or n rest → x ≡ n → ((y : ℕ) → member y rest ≡ true → y < n) → rest ≡ []
none_rest n x [] e is f = refl
none_rest n x (y ∷ ys) e is f = absurd (let b = f y (member-head y ys) in omega arith)

-- at the end all groups in use are found
pub grouped-all : (n : ℕ) (ws list : List ℕ) (x last : ℕ) (found : List ℕ) → WordsKeepList n ws list → Grouped n (labels n ws) list x last found → x ≡ n
    → found ≡ runs (labels n ws).group list
grouped-all n ws list x last found s g is =
    let none : g.rest ≡ [] = none_rest n x g.rest g.head is (λ y m. (s.inside y (ap (member y) g.is ∙ member-append_right y g.done g.rest m)).below) in
    sym (append-nil found) ∙ (ap (λ zs. found ++ runs_after last (labels n ws).group zs) (sym none) ∙ g.so_far)

-- there are no more groups in use than numbers of items
pub groups_few : (n : ℕ) (ws list gs : List ℕ) → WordsKeepList n ws list → gs ≡ runs (labels n ws).group list → length gs ≤ n
groups_few n ws list gs s e = omega (arith, ap length e, runs_short (labels n ws).group list, below_bound n list s.distinct (λ x m. (s.inside x m).below))

-- a group in use has a number from 1 to n + 1
pub group_in : (n : ℕ) (ws list gs : List ℕ) (g : ℕ) → WordsKeepList n ws list → gs ≡ runs (labels n ws).group list → member g gs ≡ true → (0 < g) × (g ≤ n + 1)
group_in n ws list gs g s e m =
    let from = runs_item (labels n ws).group g list (ap (member g) (sym e) ∙ m) in
    (omega (arith, from.2, (s.inside from.0 from.1).group_low), omega (arith, from.2, (s.inside from.0 from.1).group_high))

-- labels at even distances rise
pub evens-rise : (n room : ℕ) → n + 1 ≤ room → Ascends 1 room (evens n (room / (n + 1)) 0)
evens-rise n room l =
    let some : 1 ≤ room / (n + 1) = le-div 1 room (n + 1) (omega arith) (omega arith) in
    let all : (0 + n + 1) * (room / (n + 1)) ≤ room = let e = div-add-mod' room (n + 1) in omega (arith, e) in
    Ascends-low 1 (0 * (room / (n + 1)) + 1) room (evens n (room / (n + 1)) 0) (omega arith) (Ascends-evens n (room / (n + 1)) 0 room some all)

-- a member stands at a place within the length
pub index_of : (x : ℕ) (xs : List ℕ) → member x xs ≡ true → (i : ℕ) × (i < length xs) × (get_or xs i 0 ≡ x)
index_of x [] m = absurd (false≢true m)
index_of x (y ∷ ys) m = elim (member-cases x y ys m) [
  | inl e ↦ (zero, omega arith, sym e)
  | inr k ↦ let r = index_of x ys k in (suc r.0, omega (arith, r.1), r.2)
]

-- labels at even distances differ by two or more
pub evens-apart : (t : ℕ → ℕ) (gs : List ℕ) (step room g h : ℕ) → map t gs ≡ evens (length gs) step 0 → 2 ≤ step → (length gs + 1) * step ≤ room
    → member g gs ≡ true → (t g + 2 ≤ room) × (member h gs ≡ true → t g < t h → t g + 2 ≤ t h)
evens-apart t gs step room g h e two all m =
    let i = index_of g gs m in
    let at : (k : ℕ) → k < length gs → t (get_or gs k 0) ≡ (k + 1) * step = λ k l. sym (get_or-map t gs k 0 0 l)
    ∙ (ap (λ zs. get_or zs k 0) e ∙ (get_or-evens (length gs) step 0 k l ∙ (let z : 0 + k + 1 ≡ k + 1 = omega arith in ap (λ y. y * step) z))) in
    let g-is : t g ≡ (i.0 + 1) * step = ap t (sym i.2) ∙ at i.0 i.1 in
    let next : (i.0 + 1 + 1) * step ≡ (i.0 + 1) * step + step = omega arith in
    let end : (i.0 + 1 + 1) * step ≤ (length gs + 1) * step = mul-le-mul_right step (omega (arith, i.1)) in (
      omega arith,
      λ k lt.
          let j = index_of h gs k in
          let h-is : t h ≡ (j.0 + 1) * step = ap t (sym j.2) ∙ at j.0 j.1 in
          elim (cases_lt i.0 j.0) [
            | inl below ↦ let more : (i.0 + 1 + 1) * step ≤ (j.0 + 1) * step = mul-le-mul_right step (omega arith) in omega arith
            | inr above ↦ let less : (j.0 + 1) * step ≤ (i.0 + 1) * step = mul-le-mul_right step (omega arith) in absurd (omega arith)
          ],
    )

-- labels of groups in use that share all room evenly differ by two or more, and from its end too
pub tops_gaps : (t : ℕ → ℕ) (gs rs : List ℕ) (g h : ℕ) → gs ≡ rs → length gs ≤ ITEMS → map t gs ≡ evens (length gs) (TOP_ROOM / (length gs + 1)) 0
    → member g rs ≡ true → (t g + 2 ≤ TOP_ROOM) × (member h rs ≡ true → t g < t h → t g + 2 ≤ t h)
tops_gaps t gs rs g h e few tops m =
    let two : 2 ≤ TOP_ROOM / (length gs + 1) = le-div 2 TOP_ROOM (length gs + 1) (omega arith) (omega arith) in
    let all : (length gs + 1) * (TOP_ROOM / (length gs + 1)) ≤ TOP_ROOM = let d = div-add-mod' TOP_ROOM (length gs + 1) in omega (arith, d) in
    let k = evens-apart t gs (TOP_ROOM / (length gs + 1)) TOP_ROOM g h tops two all (ap (member g) e ∙ m) in
    (k.0, λ m' lt. k.1 (ap (member h) e ∙ m') lt)
