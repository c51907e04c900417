-- An eviction, and a settling, are steps of the search.
use Rattle.std.proofs.Common.{◌≡◌, ◌≢◌, ◌≤◌, ◌<◌, ◌+◌, ◌-◌, ◌⊎◌, ℕ, suc, zero, Bool, true, false, cond, not, ◌&&◌, ◌||◌, List, [], ◌∷◌, ◌++◌, length}
use Rattle.std.proofs.Common.{take, drop, get_or, ltb, leb, refl, sym, ◌∙◌, ap, subst, inl, inr, arith, true≢false, leb-true}
use Rattle.std.specs.Prelude.{is_some}
use Rattle.std.specs.Vec.{vec_len}
use Rattle.std.proofs.lemmas.Bool.{cases_Bool, cases_eq, cases_order, false≢true, false_from_ne_true}
use Rattle.std.proofs.lemmas.List.{take_more, drop_more, drop_all, drop_at, drop-append-le, length_push, get_or_read}
use Rattle.kc_lists.specs.Lists.{member, Distinct}
use Rattle.kc_lists.proofs.Members.{member-head, member-tail, member-cases, member-append, member-append_left, member-append_right, not_member-cons}
use Rattle.kc_lists.proofs.Counting.{member-get_or, member-push_cases, Distinct-drop}
use Rattle.kc_graph.specs.declared.update.Update.{Update}
use Rattle.kc_cert.specs.Local.{firsts, seconds}
use Rattle.kc_cert.specs.Ranks.{AscendsBy}
use Rattle.kc_view.specs.Answers.{has_list}
use Rattle.kc_view.specs.Search.{Search, after, OnLevel}
use Rattle.kc_view.specs.Views.{Shown}
use Rattle.kc_view.proofs.Fronts.{firsts-push, seconds-push}
use Rattle.kc_insert.specs.Marks.{earlier_in, later_in, turn_in, candidate_in, weak_in}
use Rattle.kc_insert.specs.Rising.{is_queued, earlier_at, later_at, turn_at, is_candidate, is_weak, is_named, cands, left, waiting, pending}
use Rattle.kc_insert.specs.Rising.{IsOrderly, IsTidyRising}
use Rattle.kc_insert.specs.Searching.{ahead, Widened, Drops, BetweenTurns, InSettling}
use Rattle.kc_insert.specs.Turns.{LeavesQueue, Loses, Evicts, LinedUp, SettlingAt, IsBetweenTurns, IsSettling}
use Rattle.kc_insert.specs.declared.losing.Loss.{Loss}
use Rattle.kc_insert.specs.declared.losing.Loss.TheVariants as loss
use Rattle.kc_insert.specs.declared.rising.Mark.{Mark}
use Rattle.kc_insert.specs.declared.rising.Rising.{Rising}
use Rattle.kc_insert.proofs.Losses.{cand-left, cands-has, shifts-fit}
use Rattle.kc_insert.proofs.Tidy.{named-cases, named-candidate, named-weak, named-anchor, left-queued, left-more, first-not_left, tidy-rising}
use Rattle.kc_insert.proofs.Turning.{turn_evict, turn_settle, turn_settled, settling_same}
use Rattle.kc_insert.proofs.Queues.{Ascends-at}

-- what is in the second part of a list of distinct items is not in the first
distinct-apart : (y : ℕ) (xs ys : List ℕ) → Distinct (xs ++ ys) → member y ys ≡ true → member y xs ≡ false
distinct-apart y [] ys d m = refl
distinct-apart y (x ∷ xs) ys d m =
    not_member-cons y x xs (λ e. true≢false (sym (member-append_right y xs ys m) ∙ (ap (λ k. member k (xs ++ ys)) e ∙ d.0))) (distinct-apart y xs ys d.1 m)

-- what is in a list is among its first `n` or behind these
take-or_drop : (n : ℕ) (xs : List ℕ) (y : ℕ) → member y xs ≡ true → (member y (take n xs) ≡ true) ⊎ (member y (drop n xs) ≡ true)
take-or_drop zero xs y m = inr m
take-or_drop (suc n) [] y m = absurd (false≢true m)
take-or_drop (suc n) (x ∷ xs) y m = elim (member-cases y x xs m) [
  | inl e ↦ inl (ap (λ k. member k (x ∷ take n xs)) e ∙ member-head x (take n xs))
  | inr k ↦ elim (take-or_drop n xs y k) [ inl h ↦ inl (member-tail y x (take n xs) h) | inr h ↦ inr h ]
]

-- with the same queue and turn, the same have left
pub same-left : (old new : Rising) → new.queue.items ≡ old.queue.items → new.turn ≡ old.turn → left new ≡ left old
same-left old new queue turn = ap (λ n. take n new.queue.items) turn ∙ ap (take old.turn) queue

-- with the same queue and turn, the same wait
same-waiting : (old new : Rising) → new.queue.items ≡ old.queue.items → new.turn ≡ old.turn → waiting new ≡ waiting old
same-waiting old new queue turn = ap (λ n. drop n new.queue.items) turn ∙ ap (drop old.turn) queue

-- the turns of two candidates come in the order of their ranks
pub turn-order : (rank : ℕ → ℕ) (r : Rising) → IsOrderly r → AscendsBy rank r.queue.items → (y x : ℕ) → is_candidate r y ≡ true
    → is_candidate r x ≡ true → ltb (turn_at r y) (turn_at r x) ≡ ltb (rank y) (rank x)
turn-order rank r o up y x cy cx =
    let ky = o.turned y cy in
    let kx = o.turned x cx in
    let fits : r.turn ≤ length r.queue.items = o.turn_in in
    elim (cases_order (turn_at r y) (turn_at r x)) [
      | inl e ↦
          let same : y ≡ x = sym ky.1 ∙ (ap (λ n. get_or r.queue.items n 0) e ∙ kx.1) in
          let e' : rank y ≡ rank x = ap rank same in
          grind (arith, e, e')
      | inr (inl lt) ↦
          let k : rank (get_or r.queue.items (turn_at r y) 0) < rank (get_or r.queue.items (turn_at r x) 0) =
          Ascends-at rank r.queue.items (turn_at r y) (turn_at r x) up lt (omega (arith, kx.0, fits)) in
          let ey : rank (get_or r.queue.items (turn_at r y) 0) ≡ rank y = ap rank ky.1 in
          let ex : rank (get_or r.queue.items (turn_at r x) 0) ≡ rank x = ap rank kx.1 in
          let k' : rank y < rank x = omega (arith, k, ey, ex) in
          grind (arith, lt, k')
      | inr (inr lt) ↦
          let k : rank (get_or r.queue.items (turn_at r x) 0) < rank (get_or r.queue.items (turn_at r y) 0) =
          Ascends-at rank r.queue.items (turn_at r x) (turn_at r y) up lt (omega (arith, ky.0, fits)) in
          let ey : rank (get_or r.queue.items (turn_at r y) 0) ≡ rank y = ap rank ky.1 in
          let ex : rank (get_or r.queue.items (turn_at r x) 0) ≡ rank x = ap rank kx.1 in
          let k' : rank x < rank y = omega (arith, k, ey, ex) in
          grind (arith, lt, k')
    ]

-- of two numbers that differ and lie as two ranks do, one is not the lesser where its rank is the greater
not-before : (a b r q : ℕ) → ltb a b ≡ ltb r q → ltb b a ≡ ltb q r → a ≢ b → not (ltb a b) ≡ ltb q r
not-before a b r q h k ne = grind arith

-- of two candidates one did not have its turn first where the other has the lesser rank
turn-behind : (rank : ℕ → ℕ) (r : Rising) → IsOrderly r → AscendsBy rank r.queue.items → (y x : ℕ) → is_candidate r y ≡ true
    → is_candidate r x ≡ true → y ≢ x → not (ltb (turn_at r y) (turn_at r x)) ≡ ltb (rank x) (rank y)
turn-behind rank r o up y x cy cx ne =
    not-before (turn_at r y) (turn_at r x) (rank y) (rank x) (turn-order rank r o up y x cy cx) (turn-order rank r o up x y cx cy)
    (λ e. ne (sym (o.turned y cy).1 ∙ (ap (λ n. get_or r.queue.items n 0) e ∙ (o.turned x cx).1)))

-- the weak candidate whose turn it is
pub next-weak : (r : Rising) (i x : ℕ) → i ≡ vec_len r.shifts → length r.shifts.items < length r.seen.weak.items → x ≡ get_or r.seen.weak.items i x
    → get_or r.seen.weak.items (length r.shifts.items) 0 ≡ x
next-weak r i x len lt at =
    let e : i ≡ length r.shifts.items = omega (arith, len, r.shifts.ok.0) in
    ap (λ n. get_or r.seen.weak.items n 0) (sym e) ∙ sym (get_or_read r.seen.weak.items i x (omega (arith, lt, e)) at 0)

-- the weak candidate whose turn it is has left the queue
pub next-left : (r : Rising) (x : ℕ) → IsOrderly r → length r.shifts.items < length r.seen.weak.items
    → get_or r.seen.weak.items (length r.shifts.items) 0 ≡ x → member x (left r) ≡ true
next-left r x o lt first = o.weak_left x (ap (λ k. member k r.seen.weak.items) (sym first) ∙ member-get_or r.seen.weak.items (length r.shifts.items) 0 lt)

-- where the weak candidate whose turn it is is evicted, queue and marks stay orderly
pub evict-orderly : (x anchor : ℕ) (old new : Rising) → IsOrderly old → Evicts x anchor old new
    → length old.shifts.items < length old.seen.weak.items → get_or old.seen.weak.items (length old.shifts.items) 0 ≡ x
    → member anchor (left old) ≡ true → IsOrderly new
evict-orderly x anchor old new o e lt first near =
    let n : ℕ = length old.shifts.items in
    let same : left new ≡ left old = same-left old new e.queue e.turn in
    let there : member x old.seen.weak.items ≡ true = ap (λ k. member k old.seen.weak.items) (sym first) ∙ member-get_or old.seen.weak.items n 0 lt in
    let queued : member x old.queue.items ≡ true = left-queued old x (next-left old x o lt first) in
    let count : length new.shifts.items ≡ n + 1 = ap length e.shifts ∙ length_push old.shifts.items (x, anchor) in
    record {
      once = subst Distinct (sym e.queue) o.once;
      marked = λ z. elim (cases_eq z x) [
        | inl q ↦ ap (is_queued new) q ∙ (ap is_some e.marks.here ∙ sym (ap (member z) e.queue ∙ (ap (λ k. member k old.queue.items) q ∙ queued)))
        | inr ne ↦ ap is_some (e.marks.others z ne) ∙ (o.marked z ∙ sym (ap (member z) e.queue))
      ];
      turn_in = let k : length new.queue.items ≡ length old.queue.items = ap length e.queue in omega (arith, k, e.turn, o.turn_in);
      turned = λ z c. elim (cases_eq z x) [
        | inl q ↦ absurd (true≢false (sym c ∙ (ap (is_candidate new) q ∙ ap candidate_in e.marks.here)))
        | inr ne ↦
            let k = o.turned z (sym (ap candidate_in (e.marks.others z ne)) ∙ c) in
            let at : turn_at new z ≡ turn_at old z = ap turn_in (e.marks.others z ne) in (
              omega (arith, at, e.turn, k.0),
              ap (λ xs. get_or xs (turn_at new z) 0) e.queue ∙ (ap (λ i. get_or old.queue.items i 0) at ∙ k.1),
            )
      ];
      weak_once = subst Distinct (sym e.weak) o.weak_once;
      weak_marked = λ z. elim (cases_eq z x) [
        | inl q ↦ ap (is_weak new) q ∙ (ap weak_in e.marks.here ∙ sym (ap (member z) e.weak ∙ (ap (λ k. member k old.seen.weak.items) q ∙ there)))
        | inr ne ↦ ap weak_in (e.marks.others z ne) ∙ (o.weak_marked z ∙ sym (ap (member z) e.weak))
      ];
      weak_left = λ z m. ap (member z) same ∙ o.weak_left z (sym (ap (member z) e.weak) ∙ m);
      shifted = ap firsts e.shifts ∙ (firsts-push old.shifts.items x anchor
          ∙ (ap (λ xs. xs ++ x ∷ []) o.shifted
          ∙ (ap (λ k. take n old.seen.weak.items ++ k ∷ []) (sym first) ∙ (sym (take_more old.seen.weak.items n 0 lt)
          ∙ (ap (λ k. take k old.seen.weak.items) (sym count) ∙ ap (take (length new.shifts.items)) (sym e.weak))))));
      anchored = λ z m. ap (member z) same
          ∙ elim (member-push_cases z anchor (seconds old.shifts.items) (sym (ap (λ xs. member z (seconds xs)) e.shifts
          ∙ ap (member z) (seconds-push old.shifts.items x anchor)) ∙ m)) [
            | inl k ↦ o.anchored z k
            | inr q ↦ ap (λ k. member k (left old)) q ∙ near
          ];
    }

-- by the losses of neighbours, moves name nobody whom they might not have named before
pub loses-named : (level : ℕ) (loss : Loss) (ys : List ℕ) (old new : Rising) → Loses level loss ys old new → (z : ℕ)
    → is_named new z ≡ true → is_named old z ≡ true
loses-named level loss ys old new l z n = elim (named-cases new z n) [
  | inl c ↦ named-candidate old z (sym (l.candidates z) ∙ c)
  | inr (inl m) ↦ elim (cases_Bool (member z old.seen.weak.items)) [
    | inl was ↦ named-weak old z was
    | inr none ↦ named-candidate old z (l.only z m none).0
  ]
  | inr (inr m) ↦ named-anchor old z (sym (ap (λ xs. member z (seconds xs)) l.shifts) ∙ m)
]

-- by an eviction, moves name nobody but the anchor whom they might not have named before
pub evicts-named : (x anchor : ℕ) (old new : Rising) → Evicts x anchor old new → (z : ℕ) → is_named new z ≡ true → (is_named old z ≡ true) ⊎ (z ≡ anchor)
evicts-named x anchor old new e z n = elim (named-cases new z n) [
  | inl c ↦ elim (cases_eq z x) [
    | inl is ↦ absurd (true≢false (sym c ∙ (ap (is_candidate new) is ∙ ap candidate_in e.marks.here)))
    | inr ne ↦ inl (named-candidate old z (sym (ap candidate_in (e.marks.others z ne)) ∙ c))
  ]
  | inr (inl m) ↦ inl (named-weak old z (sym (ap (member z) e.weak) ∙ m))
  | inr (inr m) ↦ elim (member-push_cases z anchor (seconds old.shifts.items)
      (sym (ap (λ xs. member z (seconds xs)) e.shifts ∙ ap (member z) (seconds-push old.shifts.items x anchor)) ∙ m)) [
        | inl k ↦ inl (named-anchor old z k)
        | inr q ↦ inr q
      ]
]

-- where queue and turn stay, and the lists of those were read whom moves may name now, the search stays tidy
pub stays-tidy : (update : Update) (shown : Shown) (old new : Rising) → IsTidyRising update shown old → IsOrderly new
    → new.queue.items ≡ old.queue.items → ((z : ℕ) → is_named new z ≡ true → (is_named old z ≡ true) ⊎ (has_list shown.kept z ≡ true))
    → IsTidyRising update shown new
stays-tidy update shown old new t o queue read =
    tidy-rising update shown old new t o (λ z m. ap (member z) queue ∙ m) (λ z m. inl (sym (ap (member z) queue) ∙ m)) read

-- a candidate's later count after an eviction, in words of adjacency and order
less_later : (n'' n' n : ℕ) (h a m t f : Bool) → n'' ≡ n' - cond (h && (m && t)) 1 0 → n' ≡ n → h ≡ a → m ≡ true → t ≡ f → n'' ≡ n - cond (a && f) 1 0
less_later n'' n' n h a m t f e e' ha hm ht = grind arith

-- an earlier count after an eviction, in words of adjacency and order
less_earlier : (n'' n' n : ℕ) (h a p f : Bool) → n'' ≡ n' - cond (h && p) 1 0 → n' ≡ n → h ≡ a → p ≡ f → n'' ≡ n - cond (a && f) 1 0
less_earlier n'' n' n h a p f e e' ha hp = grind arith

-- a candidate that did not have its turn first loses an earlier one
behind-cand : (c t f : Bool) → c ≡ true → not t ≡ f → not (c && t) ≡ f
behind-cand c t f hc ht = grind arith

-- one that is no candidate loses an earlier one
behind-open : (c t f : Bool) → c ≡ false → f ≡ true → not (c && t) ≡ f
behind-open c t f hc hf = grind arith

-- whoever is a candidate or open, and no candidate, is open
open-from : (m l : Bool) → (m || l) ≡ true → m ≡ false → l ≡ true
open-from m l h n = grind arith

-- with the same queue and turn, the queue is lined up as before
lined-same : (q : Search) (root frontier : ℕ) (old new : Rising) → LinedUp q root old frontier → new.queue.items ≡ old.queue.items
    → new.turn ≡ old.turn → LinedUp q root new frontier
lined-same q root frontier old new l queue turn = record {
  ascends = subst (AscendsBy q.rank) (sym queue) l.ascends;
  reached = λ z m. l.reached z (sym (ap (member z) queue) ∙ m);
  passed = λ z m. l.passed z (sym (ap (member z) (same-left old new queue turn)) ∙ m);
}

-- a candidate is evicted, and its neighbours lose by it
pub evicted-now : (q : Search) (root x anchor frontier : ℕ) (row : List ℕ) (old mid new : Rising) → Widened q root → IsOrderly old
    → IsOrderly new → Evicts x anchor old mid → Loses q.level (loss.Evicted (turn_at old x)) row mid new
    → length old.shifts.items < length old.seen.weak.items → get_or old.seen.weak.items (length old.shifts.items) 0 ≡ x
    → ((y : ℕ) → y < q.size → member y row ≡ q.adj x y)
    → SettlingAt q root old frontier anchor → SettlingAt q root new frontier x
evicted-now q root x anchor frontier row old mid new w o o' ev l lt first exact st =
    let n : ℕ = length old.shifts.items in
    let rest : List ℕ = drop (n + 1) old.seen.weak.items in
    let head : pending old ≡ x ∷ rest = drop_more old.seen.weak.items n 0 lt ∙ ap (λ k. k ∷ rest) first in
    let b =
    subst
    (λ (xs : List ℕ). InSettling q root (cands old) (waiting old) frontier (earlier_at old) (later_at old) old.shifts.items xs anchor)
    head st.settling in
    let queue : new.queue.items ≡ old.queue.items = l.queue ∙ ev.queue in
    let turn : new.turn ≡ old.turn = l.turn ∙ ev.turn in
    let shifts : new.shifts.items ≡ old.shifts.items ++ (x, anchor) ∷ [] = l.shifts ∙ ev.shifts in
    let count : length new.shifts.items ≡ n + 1 = ap length shifts ∙ length_push old.shifts.items (x, anchor) in
    let more : List ℕ = l.more.0 in
    let weak : new.seen.weak.items ≡ old.seen.weak.items ++ more = l.more.1 ∙ ap (λ xs. xs ++ more) ev.weak in
    let pend : pending new ≡ rest ++ more =
    ap (λ k. drop k new.seen.weak.items) count ∙ (ap (drop (n + 1)) weak ∙ drop-append-le (n + 1) old.seen.weak.items more (omega (arith, lt))) in
    let x_cand : is_candidate old x ≡ true = sym (cands-has old o x) ∙ b.settling.listed x (member-head x rest) in
    let gone : is_candidate new x ≡ false = l.candidates x ∙ ap candidate_in ev.marks.here in
    let mid_cand : (y : ℕ) → y ≢ x → is_candidate mid y ≡ is_candidate old y = λ y ne. ap candidate_in (ev.marks.others y ne) in
    let same_cand : (y : ℕ) → y ≢ x → is_candidate new y ≡ is_candidate old y = λ y ne. l.candidates y ∙ mid_cand y ne in
    let drop' : Drops (cands old) x (cands new) = record {
      itself = cands-has new o' x ∙ gone;
      others = λ y ne. cands-has new o' y ∙ (same_cand y ne ∙ sym (cands-has old o y));
    } in
    let was : (y : ℕ) → member y (cands new) ≡ true → (y ≢ x) × (is_candidate old y ≡ true) × OnLevel q y = λ y m.
    let ne : y ≢ x = λ e. true≢false (sym m ∙ (ap (λ k. member k (cands new)) e ∙ drop'.itself)) in
    (ne, sym (same_cand y ne) ∙ (sym (cands-has new o' y) ∙ m), b.searching.cand_level y (sym (drop'.others y ne) ∙ m)) in
    let up : AscendsBy q.rank old.queue.items = st.lined.ascends in
    let next =
    turn_evict q root (cands old) (waiting old) frontier (earlier_at old) (later_at old) old.shifts.items rest x anchor w b (cands new)
    (pending new) (earlier_at new) (later_at new)
    (record {
      dropped = drop';
      fewer_later = λ y m.
          let k = was y m in
          less_later (later_at new y) (later_at mid y) (later_at old y) (member y row) (q.adj x y) (is_candidate mid y)
          (ltb (turn_at mid y) (turn_at old x)) (after q y x)
          (l.later y) (ap later_in (ev.marks.others y k.0)) (exact y k.2.here) (mid_cand y k.0 ∙ k.1)
          (ap (λ i. ltb i (turn_at old x)) (ap turn_in (ev.marks.others y k.0)) ∙ turn-order q.rank old o up y x k.1 x_cand);
      fewer_earlier = λ y oy ne h.
          let behind : not (is_candidate mid y && ltb (turn_at mid y) (turn_at old x)) ≡ after q x y = elim (cases_Bool (is_candidate old y)) [
            | inl c ↦ behind-cand (is_candidate mid y) (ltb (turn_at mid y) (turn_at old x)) (after q x y) (mid_cand y ne ∙ c)
                (ap (λ i. not (ltb i (turn_at old x))) (ap turn_in (ev.marks.others y ne)) ∙ turn-behind q.rank old o up y x c x_cand ne)
            | inr none ↦
                let open' : frontier ≤ q.rank y =
                leb-true frontier (q.rank y)
                (open-from (member y (cands new)) (leb frontier (q.rank y)) h (cands-has new o' y ∙ (same_cand y ne ∙ none))) in
                let passed : q.rank x < frontier = st.lined.passed x (cand-left old o x x_cand) in
                let lt' : q.rank x < q.rank y = omega (arith, open', passed) in
                behind-open (is_candidate mid y) (ltb (turn_at mid y) (turn_at old x)) (after q x y) (mid_cand y ne ∙ none) (grind (arith, lt'))
          ] in
          less_earlier (earlier_at new y) (earlier_at mid y) (earlier_at old y) (member y row) (q.adj x y)
          (not (is_candidate mid y && ltb (turn_at mid y) (turn_at old x))) (after q x y)
          (l.earlier y) (ap earlier_in (ev.marks.others y ne)) (exact y oy.here) behind;
    })
    (record {
      distinct = Distinct-drop (length new.shifts.items) new.seen.weak.items o'.weak_once;
      kept = λ y m. ap (member y) pend ∙ member-append_left y rest more m;
      only = λ y m none.
          let added : member y more ≡ true =
          elim (member-append y rest more (sym (ap (member y) pend) ∙ m)) [ inl k ↦ absurd (true≢false (sym k ∙ none)) | inr k ↦ k ] in
          let here : member y new.seen.weak.items ≡ true = ap (member y) l.more.1 ∙ member-append_right y mid.seen.weak.items more added in
          let out : member y mid.seen.weak.items ≡ false = distinct-apart y mid.seen.weak.items more (subst Distinct l.more.1 o'.weak_once) added in
          let k = l.only y here out in
          (cands-has new o' y ∙ (l.candidates y ∙ k.0), k.1);
      all_weak = λ y m a none.
          let k = was y m in
          let out : member y new.seen.weak.items ≡ false = false_from_ne_true _ (λ t. elim (take-or_drop (length new.shifts.items) new.seen.weak.items y t) [
            | inl h ↦ elim (member-push_cases y x (firsts old.shifts.items) (sym (ap (member y) (sym o'.shifted
                ∙ (ap firsts shifts ∙ firsts-push old.shifts.items x anchor))) ∙ h)) [
                  | inl f ↦ true≢false (sym (cands-has old o y ∙ k.1) ∙ b.shifts_fit.first_done y f)
                  | inr e ↦ k.0 e
                ]
            | inr h ↦ true≢false (sym h ∙ none)
          ]) in
          l.all_weak y (exact y k.2.here ∙ a) (mid_cand y k.0 ∙ k.1) out;
    }) in
    record {
      lined = lined-same q root frontier old new st.lined queue turn;
      settling =
          subst
          (λ (xs : List ℕ). InSettling q root (cands new) xs frontier (earlier_at new) (later_at new) new.shifts.items (pending new) x)
          (sym (same-waiting old new queue turn))
          (subst
          (λ (ss : List (ℕ × ℕ)). InSettling q root (cands new) (waiting old) frontier (earlier_at new) (later_at new) ss (pending new) x)
          (sym shifts) next);
    }

-- where nobody is too weak any more, the search is between two turns again
pub settled-between : (q : Search) (root last : ℕ) (r : Rising) → IsOrderly r → length r.seen.weak.items ≤ length r.shifts.items
    → IsSettling q root r last → IsBetweenTurns q root r
settled-between q root last r o le st =
    let frontier : ℕ = st.0 in
    let none : pending r ≡ [] = drop_all (length r.shifts.items) r.seen.weak.items le in (
      frontier,
      record {
        lined = st.1.lined;
        turns = turn_settled q root (cands r) (waiting r) frontier (earlier_at r) (later_at r) r.shifts.items last
            (subst (λ (xs : List ℕ). InSettling q root (cands r) (waiting r) frontier (earlier_at r) (later_at r) r.shifts.items xs last) none st.1.settling);
        calm = omega (arith, le, shifts-fit r o);
      },
    )

-- the later count of a candidate after a settling, in words of adjacency
fewer-by : (n'' n' n : ℕ) (h a m : Bool) → n'' ≡ n' - cond (h && m) 1 0 → n' ≡ n → h ≡ a → m ≡ true → n'' ≡ n - cond a 1 0
fewer-by n'' n' n h a m e e' ha hm = grind arith

-- a count of which nothing is taken stays
none-less : (n'' n' n : ℕ) (h : Bool) → n'' ≡ n' - cond (h && false) 1 0 → n' ≡ n → n'' ≡ n
none-less n'' n' n h e e' = grind arith

-- the first of the queue is settled, and its neighbours lose by it
pub settled-now : (q : Search) (root w : ℕ) (mark : Mark) (row : List ℕ) (old mid new : Rising) → Widened q root → IsOrderly old
    → IsOrderly new → LeavesQueue w mark old mid → mark.is_candidate ≡ false → Loses q.level loss.Settled row mid new
    → old.turn < length old.queue.items → get_or old.queue.items old.turn 0 ≡ w → ((y : ℕ) → y < q.size → member y row ≡ q.adj w y)
    → earlier_at old w + ahead q w ≤ q.level
    → IsBetweenTurns q root old → IsSettling q root new w
settled-now q root w mark row old mid new wide o o' lv plain l lt first exact weak bt =
    let frontier : ℕ = bt.0 in
    let at = bt.1 in
    let n : ℕ = length old.shifts.items in
    let rest : List ℕ = drop (old.turn + 1) old.queue.items in
    let head : waiting old ≡ w ∷ rest = drop_more old.queue.items old.turn 0 lt ∙ ap (λ k. k ∷ rest) first in
    let b = subst (λ (xs : List ℕ). BetweenTurns q root (cands old) xs frontier (earlier_at old) (later_at old) old.shifts.items) head at.turns in
    let w_open : frontier ≤ q.rank w = b.searching.queue_open w (member-head w rest) in
    let out : member w (left old) ≡ false = first-not_left w old o lt first in
    let w_none : is_candidate old w ≡ false = false_from_ne_true _ (λ c. true≢false (sym (cand-left old o w c) ∙ out)) in
    let queue : new.queue.items ≡ old.queue.items = l.queue ∙ lv.queue in
    let turn : new.turn ≡ old.turn + 1 = l.turn ∙ lv.turn in
    let shifts : new.shifts.items ≡ old.shifts.items = l.shifts ∙ lv.shifts in
    let more : List ℕ = l.more.0 in
    let pend : pending new ≡ more =
    ap (λ k. drop k new.seen.weak.items) (ap length shifts)
    ∙ (ap (drop n) (l.more.1 ∙ ap (λ xs. xs ++ more) lv.weak) ∙ drop_at old.seen.weak.items more n (sym at.calm)) in
    let mid_cand : (y : ℕ) → is_candidate mid y ≡ is_candidate old y = λ y. elim (cases_eq y w) [
      | inl e ↦ ap (is_candidate mid) e ∙ (ap candidate_in lv.marks.here ∙ (plain ∙ sym (ap (is_candidate old) e ∙ w_none)))
      | inr ne ↦ ap candidate_in (lv.marks.others y ne)
    ] in
    let was : (y : ℕ) → member y (cands old) ≡ true → (y ≢ w) × (is_candidate old y ≡ true) × OnLevel q y = λ y m.
    let c : is_candidate old y ≡ true = sym (cands-has old o y) ∙ m in
    (λ e. true≢false (sym c ∙ (ap (is_candidate old) e ∙ w_none)), c, b.searching.cand_level y m) in
    let same : (y : ℕ) → member y (cands new) ≡ member y (cands old) = λ y. cands-has new o' y ∙ (l.candidates y ∙ (mid_cand y ∙ sym (cands-has old o y))) in
    let next =
    turn_settle q root (cands old) rest w frontier (earlier_at old) (later_at old) old.shifts.items wide b (earlier_at new)
    (later_at new) (pending new)
    (record {
      weak = weak;
      fewer = λ y m.
          let k = was y m in
          fewer-by (later_at new y) (later_at mid y) (later_at old y) (member y row) (q.adj w y) (is_candidate mid y) (l.later y)
          (ap later_in (lv.marks.others y k.0)) (exact y k.2.here) (mid_cand y ∙ k.1);
      earlier_kept =
          λ y ne.
          none-less (earlier_at new y) (earlier_at mid y) (earlier_at old y) (member y row) (l.earlier y)
          (ap earlier_in (lv.marks.others y ne));
    })
    (record {
      distinct = Distinct-drop (length new.shifts.items) new.seen.weak.items o'.weak_once;
      kept = λ y m. absurd (false≢true m);
      only = λ y m none.
          let added : member y more ≡ true = sym (ap (member y) pend) ∙ m in
          let here : member y new.seen.weak.items ≡ true = ap (member y) l.more.1 ∙ member-append_right y mid.seen.weak.items more added in
          let not_yet : member y mid.seen.weak.items ≡ false = distinct-apart y mid.seen.weak.items more (subst Distinct l.more.1 o'.weak_once) added in
          let k = l.only y here not_yet in
          (cands-has old o y ∙ (sym (mid_cand y) ∙ k.0), k.1);
      all_weak = λ y m a none.
          let k = was y m in
          let missed : member y new.seen.weak.items ≡ false = false_from_ne_true _ (λ t. elim (take-or_drop (length new.shifts.items) new.seen.weak.items y t) [
            | inl h ↦ true≢false (sym m ∙ b.shifts_fit.first_done y (sym (ap (member y) (sym o'.shifted ∙ ap firsts shifts)) ∙ h))
            | inr h ↦ true≢false (sym h ∙ none)
          ]) in
          l.all_weak y (exact y k.2.here ∙ a) (mid_cand y ∙ k.1) missed;
    }) in
    let next' =
    settling_same q root (cands old) rest (q.rank w + 1) (earlier_at new) (later_at new) old.shifts.items (pending new) w next
    (cands new) (earlier_at new) (later_at new) same (λ y. refl) (λ y. refl) in
    let wait : waiting new ≡ rest = ap (λ k. drop k new.queue.items) turn ∙ ap (drop (old.turn + 1)) queue in
    let gone : left new ≡ left old ++ w ∷ [] = same-left mid new l.queue l.turn ∙ left-more w mark old mid lv lt first in (
      q.rank w + 1,
      record {
        lined = record {
          ascends = subst (AscendsBy q.rank) (sym queue) at.lined.ascends;
          reached = λ z m. at.lined.reached z (sym (ap (member z) queue) ∙ m);
          passed = λ z m. elim (member-push_cases z w (left old) (sym (ap (member z) gone) ∙ m)) [
            | inl k ↦ let p : q.rank z < frontier = at.lined.passed z k in omega (arith, p, w_open)
            | inr e ↦ let k : q.rank z ≡ q.rank w = ap q.rank e in omega (arith, k)
          ];
        };
        settling =
            subst (λ (xs : List ℕ). InSettling q root (cands new) xs (q.rank w + 1) (earlier_at new) (later_at new) new.shifts.items (pending new) w) (sym wait)
            (subst
            (λ (ss : List (ℕ × ℕ)). InSettling q root (cands new) rest (q.rank w + 1) (earlier_at new) (later_at new) ss (pending new) w)
            (sym shifts) next');
      },
    )
