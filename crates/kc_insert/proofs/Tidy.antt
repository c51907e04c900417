-- What holds for every view, from step to step.
use Rattle.std.proofs.Common.{◌≡◌, ◌≤◌, ◌<◌, ◌⊎◌, ◌||◌, ℕ, true, false, List, [], ◌∷◌, ◌++◌, length, take, get_or, sym, ◌∙◌, ap, subst, inl, inr}
use Rattle.std.proofs.Common.{arith, true≢false}
use Rattle.std.specs.Prelude.{is_some}
use Rattle.std.proofs.lemmas.Bool.{cases_Bool, cases_eq, false_from_ne_true, or_cases, or_left, or_right}
use Rattle.std.proofs.lemmas.List.{take_more}
use Rattle.std.proofs.lemmas.List.Elements.{All-push, All-weaker}
use Rattle.kc_lists.specs.Lists.{member, Distinct}
use Rattle.kc_lists.proofs.Counting.{member-get_or, member-push_left, take-not_here}
use Rattle.kc_lists.proofs.Members.{below_bound}
use Rattle.kc_graph.specs.declared.update.Update.{Update}
use Rattle.kc_graph.specs.declared.used.UsedOrder.{UsedOrder}
use Rattle.kc_view.specs.Answers.{Answers, has_list, has_core, with_order}
use Rattle.kc_cert.specs.Local.{firsts, seconds}
use Rattle.kc_view.specs.Sure.{is_listed, AsksCores, AsksOneList}
use Rattle.kc_view.specs.Views.{Shown, Further, TellsList, TellsCore}
use Rattle.kc_view.proofs.Asked.{cores-more, cores-listed, cores-none}
use Rattle.kc_view.proofs.Fronts.{take-member}
use Rattle.kc_view.proofs.Keeping.{still_has_list, still_has_core}
use Rattle.kc_insert.specs.Marks.{candidate_in, turn_in, weak_in}
use Rattle.kc_insert.specs.Rising.{is_queued, is_candidate, is_weak, is_named, turn_at, left, IsOrderly, AsksQueued, IsTidyRising}
use Rattle.kc_insert.specs.Turns.{LeavesQueue}
use Rattle.kc_insert.specs.declared.rising.Mark.{Mark}
use Rattle.kc_insert.specs.declared.rising.Rising.{Rising}

-- why moves may name a vertex
pub named-cases : (r : Rising) (z : ℕ) → is_named r z ≡ true
    → (is_candidate r z ≡ true) ⊎ (member z r.seen.weak.items ≡ true) ⊎ (member z (seconds r.shifts.items) ≡ true)
named-cases r z n = elim (or_cases (is_candidate r z) (member z r.seen.weak.items || member z (seconds r.shifts.items)) n) [
  | inl c ↦ inl c
  | inr k ↦ inr (or_cases (member z r.seen.weak.items) (member z (seconds r.shifts.items)) k)
]

-- moves may name a candidate
pub named-candidate : (r : Rising) (z : ℕ) → is_candidate r z ≡ true → is_named r z ≡ true
named-candidate r z c = or_left (is_candidate r z) (member z r.seen.weak.items || member z (seconds r.shifts.items)) c

-- moves may name whoever was found too weak
pub named-weak : (r : Rising) (z : ℕ) → member z r.seen.weak.items ≡ true → is_named r z ≡ true
named-weak r z m =
    or_right (is_candidate r z) (member z r.seen.weak.items || member z (seconds r.shifts.items))
    (or_left (member z r.seen.weak.items) (member z (seconds r.shifts.items)) m)

-- moves name those that others are put behind
pub named-anchor : (r : Rising) (z : ℕ) → member z (seconds r.shifts.items) ≡ true → is_named r z ≡ true
named-anchor r z m =
    or_right (is_candidate r z) (member z r.seen.weak.items || member z (seconds r.shifts.items))
    (or_right (member z r.seen.weak.items) (member z (seconds r.shifts.items)) m)

-- where the list of the lesser end alone was asked, nobody need be queued
pub asks-first : (update : Update) (a : Answers) → AsksOneList a update.u → AsksQueued update a []
asks-first update a asks = record {
  lists = All-weaker (λ e. e.vertex ≡ update.u) (λ e. (e.vertex ≡ update.u) ⊎ (member e.vertex [] ≡ true)) (λ e k. inl k) a.edges asks.lists;
  cores = cores-none update a update.u asks;
}

-- one list more, of the lesser end or a queued vertex, is one that may be asked
pub asks-list : (update : Update) (a b : Answers) (queue : List ℕ) (y : ℕ) → AsksQueued update a queue → TellsList a b y
    → (y ≡ update.u) ⊎ (member y queue ≡ true) → AsksQueued update b queue
asks-list update a b queue y asks tells near = elim (cases_Bool (has_list a y)) [
  | inl h ↦ subst (λ (x : Answers). AsksQueued update x queue) (sym (tells.before h)) asks
  | inr n ↦
      let (e, is, eq) = tells.now n in
      subst (λ (x : Answers). AsksQueued update x queue) (sym eq) (record {
        lists =
            All-push (λ q. (q.vertex ≡ update.u) ⊎ (member q.vertex queue ≡ true)) a.edges e asks.lists
            (subst (λ (z : ℕ). (z ≡ update.u) ⊎ (member z queue ≡ true)) (sym is) near);
        cores = subst (λ (x : Answers). AsksCores update x) eq (cores-listed update a b y asks.cores tells);
      })
]

-- one core number more, of an end or a vertex on a list that was told, is one that may be asked
pub asks-core : (update : Update) (a b : Answers) (queue : List ℕ) (y : ℕ) → AsksQueued update a queue → TellsCore a b y
    → (y ≡ update.u) ⊎ (y ≡ update.v) ⊎ (is_listed a y ≡ true) → AsksQueued update b queue
asks-core update a b queue y asks tells near = elim (cases_Bool (has_core a y)) [
  | inl h ↦ subst (λ (x : Answers). AsksQueued update x queue) (sym (tells.before h)) asks
  | inr n ↦
      let (p, is, eq) = tells.now n in
      subst (λ (x : Answers). AsksQueued update x queue) (sym eq) (record {
        lists = asks.lists;
        cores = subst (λ (x : Answers). AsksCores update x) eq (cores-more update a b y asks.cores tells near);
      })
]

-- one order more leaves the lists and core numbers that were asked
pub asks-order : (update : Update) (a b : Answers) (queue : List ℕ) (o : UsedOrder) → AsksQueued update a queue → b ≡ with_order a o → AsksQueued update b queue
asks-order update a b queue o asks eq = subst (λ (x : Answers). AsksQueued update x queue) (sym eq) (record { lists = asks.lists; cores = asks.cores })

-- where more are queued, what was asked is still asked of these
pub asks-queued : (update : Update) (a : Answers) (queue queue' : List ℕ) → AsksQueued update a queue
    → ((x : ℕ) → member x queue ≡ true → member x queue' ≡ true) → AsksQueued update a queue'
asks-queued update a queue queue' asks grows = record {
  lists =
      All-weaker (λ q. (q.vertex ≡ update.u) ⊎ (member q.vertex queue ≡ true))
      (λ q. (q.vertex ≡ update.u) ⊎ (member q.vertex queue' ≡ true)) (λ q k. elim k [ inl h ↦ inl h | inr h ↦ inr (grows q.vertex h) ])
      a.edges asks.lists;
  cores = asks.cores;
}

-- the search stays tidy where the view goes on
pub tidy-view : (update : Update) (old new : Shown) (r : Rising) → IsTidyRising update old r → new.size ≡ old.size
    → Further old.kept new.kept → AsksQueued update new.kept r.queue.items → IsTidyRising update new r
tidy-view update old new r t size further asks = record {
  orderly = t.orderly;
  within = λ z m. let l : z < old.size = t.within z m in omega (arith, l, size);
  placed = λ z m. still_has_core old.kept new.kept z further (t.placed z m);
  read = λ z m. still_has_list old.kept new.kept z further (t.read z m);
  asks = asks;
}

-- the search stays tidy where queue, candidates and evicted go on
pub tidy-rising : (update : Update) (shown : Shown) (old new : Rising) → IsTidyRising update shown old → IsOrderly new
    → ((z : ℕ) → member z old.queue.items ≡ true → member z new.queue.items ≡ true)
    → ((z : ℕ) → member z new.queue.items ≡ true → (member z old.queue.items ≡ true) ⊎ ((z < shown.size) × (has_core shown.kept z ≡ true)))
    → ((z : ℕ) → is_named new z ≡ true → (is_named old z ≡ true) ⊎ (has_list shown.kept z ≡ true)) → IsTidyRising update shown new
tidy-rising update shown old new t orderly grows from read = record {
  orderly = orderly;
  within = λ z m. elim (from z m) [ inl k ↦ t.within z k | inr k ↦ k.0 ];
  placed = λ z m. elim (from z m) [ inl k ↦ t.placed z k | inr k ↦ k.1 ];
  read = λ z m. elim (read z m) [ inl k ↦ t.read z k | inr k ↦ k ];
  asks = asks-queued update shown.kept old.queue.items new.queue.items t.asks grows;
}

-- no more are queued than there are vertices
pub queue-fits : (update : Update) (shown : Shown) (r : Rising) → IsTidyRising update shown r → length r.queue.items ≤ shown.size
queue-fits update shown r t = below_bound shown.size r.queue.items t.orderly.once t.within

-- who has left the queue was in it
pub left-queued : (r : Rising) (z : ℕ) → member z (left r) ≡ true → member z r.queue.items ≡ true
left-queued r z m = take-member r.turn r.queue.items z m

-- no more are weak than there are vertices
pub weak-fits : (update : Update) (shown : Shown) (r : Rising) → IsTidyRising update shown r → length r.seen.weak.items ≤ shown.size
weak-fits update shown r t = below_bound shown.size r.seen.weak.items t.orderly.weak_once (λ x m. t.within x (left-queued r x (t.orderly.weak_left x m)))

-- the first of those that wait leaves the queue
pub left-more : (w : ℕ) (mark : Mark) (old new : Rising) → LeavesQueue w mark old new → old.turn < length old.queue.items
    → get_or old.queue.items old.turn 0 ≡ w → left new ≡ left old ++ w ∷ []
left-more w mark old new l lt first =
    ap (λ xs. take new.turn xs) l.queue
    ∙ (ap (λ n. take n old.queue.items) l.turn ∙ (take_more old.queue.items old.turn 0 lt ∙ ap (λ y. left old ++ y ∷ []) first))

-- the first of those that wait has not left the queue
pub first-not_left : (w : ℕ) (r : Rising) → IsOrderly r → r.turn < length r.queue.items → get_or r.queue.items r.turn 0 ≡ w → member w (left r) ≡ false
first-not_left w r o lt first = subst (λ (y : ℕ). member y (left r) ≡ false) first (take-not_here r.turn r.queue.items lt o.once)

-- where the first of those that wait leaves, queue and marks stay orderly
pub leave-orderly : (w : ℕ) (mark : Mark) (old new : Rising) → IsOrderly old → LeavesQueue w mark old new → old.turn < length old.queue.items
    → get_or old.queue.items old.turn 0 ≡ w
    → (mark.is_candidate ≡ true → mark.turn ≡ old.turn) → mark.is_weak ≡ false → IsOrderly new
leave-orderly w mark old new o l lt first turn none =
    let out : member w (left old) ≡ false = first-not_left w old o lt first in
    let there : member w old.queue.items ≡ true = subst (λ (y : ℕ). member y old.queue.items ≡ true) first (member-get_or old.queue.items old.turn 0 lt) in
    let more : left new ≡ left old ++ w ∷ [] = left-more w mark old new l lt first in
    let grows : (z : ℕ) → member z (left old) ≡ true → member z (left new) ≡ true = λ z m. ap (member z) more ∙ member-push_left z w (left old) m in
    record {
      once = subst Distinct (sym l.queue) o.once;
      marked = λ z. elim (cases_eq z w) [
        | inl e ↦ ap (is_queued new) e ∙ (ap is_some l.marks.here ∙ sym (ap (member z) l.queue ∙ (ap (λ y. member y old.queue.items) e ∙ there)))
        | inr ne ↦ ap is_some (l.marks.others z ne) ∙ (o.marked z ∙ sym (ap (member z) l.queue))
      ];
      turn_in = let k : length new.queue.items ≡ length old.queue.items = ap length l.queue in omega (arith, k, l.turn, lt);
      turned = λ z c. elim (cases_eq z w) [
        | inl e ↦
            let here : mark.is_candidate ≡ true = sym (ap candidate_in l.marks.here) ∙ (ap (is_candidate new) (sym e) ∙ c) in
            let at : turn_at new z ≡ old.turn = ap (turn_at new) e ∙ (ap turn_in l.marks.here ∙ turn here) in (
              omega (arith, at, l.turn),
              ap (λ xs. get_or xs (turn_at new z) 0) l.queue ∙ (ap (λ n. get_or old.queue.items n 0) at ∙ (first ∙ sym e)),
            )
        | inr ne ↦
            let k = o.turned z (sym (ap candidate_in (l.marks.others z ne)) ∙ c) in
            let at : turn_at new z ≡ turn_at old z = ap turn_in (l.marks.others z ne) in (
              omega (arith, at, l.turn, k.0),
              ap (λ xs. get_or xs (turn_at new z) 0) l.queue ∙ (ap (λ n. get_or old.queue.items n 0) at ∙ k.1),
            )
      ];
      weak_once = subst Distinct (sym l.weak) o.weak_once;
      weak_marked = λ z. elim (cases_eq z w) [
        | inl e ↦
            let absent : member w old.seen.weak.items ≡ false = false_from_ne_true _ (λ m. true≢false (sym (o.weak_left w m) ∙ out)) in
            ap (is_weak new) e ∙ (ap weak_in l.marks.here ∙ (none ∙ sym (ap (member z) l.weak ∙ (ap (λ y. member y old.seen.weak.items) e ∙ absent))))
        | inr ne ↦ ap weak_in (l.marks.others z ne) ∙ (o.weak_marked z ∙ sym (ap (member z) l.weak))
      ];
      weak_left = λ z m. grows z (o.weak_left z (sym (ap (member z) l.weak) ∙ m));
      shifted =
          ap firsts l.shifts
          ∙ (o.shifted ∙ sym (ap (λ xs. take (length new.shifts.items) xs) l.weak ∙ ap (λ xs. take (length xs) old.seen.weak.items) l.shifts));
      anchored = λ z m. grows z (o.anchored z (sym (ap (λ xs. member z (seconds xs)) l.shifts) ∙ m));
    }

-- where the first of those that wait leaves, and its list was read if it is a candidate, the search stays tidy
pub leave-tidy : (update : Update) (shown : Shown) (w : ℕ) (mark : Mark) (old new : Rising) → IsTidyRising update shown old
    → LeavesQueue w mark old new → old.turn < length old.queue.items → get_or old.queue.items old.turn 0 ≡ w
    → (mark.is_candidate ≡ true → mark.turn ≡ old.turn) → mark.is_weak ≡ false
    → (mark.is_candidate ≡ true → has_list shown.kept w ≡ true) → IsTidyRising update shown new
leave-tidy update shown w mark old new t l lt first turn none read =
    tidy-rising update shown old new t (leave-orderly w mark old new t.orderly l lt first turn none) (λ z m. ap (member z) l.queue ∙ m)
    (λ z m. inl (sym (ap (member z) l.queue) ∙ m))
    (λ z n. elim (named-cases new z n) [
      | inl c ↦ elim (cases_eq z w) [
        | inl e ↦ inr (ap (has_list shown.kept) e ∙ read (sym (ap candidate_in l.marks.here) ∙ (ap (is_candidate new) (sym e) ∙ c)))
        | inr ne ↦ inl (named-candidate old z (sym (ap candidate_in (l.marks.others z ne)) ∙ c))
      ]
      | inr (inl m) ↦ inl (named-weak old z (sym (ap (member z) l.weak) ∙ m))
      | inr (inr m) ↦ inl (named-anchor old z (sym (ap (λ xs. member z (seconds xs)) l.shifts) ∙ m))
    ])
