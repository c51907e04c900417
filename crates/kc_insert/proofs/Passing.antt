-- One candidate more before a vertex, and its place in the queue.
use Rattle.std.proofs.Common.{◌≡◌, ◌≤◌, ◌<◌, ◌+◌, ◌-◌, ◌^◌, ◌||◌, ℕ, Bool, true, false, cond, min, List, [], ◌∷◌, ◌++◌, length, take, get_or, eqb}
use Rattle.std.proofs.Common.{ltb, refl, sym, ◌∙◌, ap, subst, inl, inr, arith, true≢false, eqb-true, eq-eqb, ne_eqb, ltb-true}
use Rattle.std.specs.Prelude.{Option, Some, None, is_some}
use Rattle.std.specs.List.{insert}
use Rattle.std.proofs.lemmas.Bool.{cases_Bool, cases_eq, or_cases, or_left, or_right}
use Rattle.std.proofs.lemmas.List.{get_or-take, length-take}
use Rattle.std.proofs.lemmas.List.Edits.{length-insert}
use Rattle.kc_lists.specs.Lists.{member, Distinct}
use Rattle.kc_lists.proofs.Counting.{member-get_or, member-push}
use Rattle.kc_lists.proofs.Shared.{or-absorbs}
use Rattle.kc_graph.specs.declared.update.Update.{Update}
use Rattle.kc_cert.specs.Local.{firsts, seconds}
use Rattle.kc_cert.specs.Ranks.{AscendsBy}
use Rattle.kc_view.specs.Answers.{has_core}
use Rattle.kc_view.specs.Views.{Shown}
use Rattle.kc_marks.specs.Maps.{value_of}
use Rattle.kc_marks.specs.SearchMarks.{MarksOne}
use Rattle.kc_insert.specs.Marks.{earlier_in, later_in, turn_in, candidate_in, weak_in}
use Rattle.kc_insert.specs.Rising.{is_queued, earlier_at, later_at, turn_at, is_candidate, is_weak, left, IsOrderly, IsTidyRising}
use Rattle.kc_insert.specs.Turns.{Passes, PassedOn, IsPlaceWithin}
use Rattle.kc_insert.specs.declared.rising.Mark.{Mark}
use Rattle.kc_insert.specs.declared.rising.Rising.{Rising}
use Rattle.kc_insert.proofs.Queues.{Ascends-at, inserted-has, inserted-once, inserted-front, inserted-ascends}
use Rattle.kc_insert.proofs.Tidy.{named-cases, named-candidate, named-weak, named-anchor, tidy-rising}

-- a number that is not less than another is at least that
not_less : (a b : ℕ) → ltb a b ≡ false → b ≤ a
not_less a b h = grind arith

-- before any halving, the place is behind those that have left the queue
pub place-first : (rank : ℕ → ℕ) (queue : List ℕ) (x turn high : ℕ) → turn ≤ length queue → high ≡ length queue
    → ((z : ℕ) → member z (take turn queue) ≡ true → rank z < rank x) → IsPlaceWithin rank queue x turn high
place-first rank queue x turn high le e left_first = record {
  before = λ k lt.
      let l : k < length (take turn queue) = omega (arith, lt, le, length-take turn queue) in
      let m : member (get_or (take turn queue) k 0) (take turn queue) ≡ true = member-get_or (take turn queue) k 0 l in
      let at : get_or (take turn queue) k 0 ≡ get_or queue k 0 = get_or-take turn queue k 0 lt in
      subst (λ (n : ℕ). rank n < rank x) at (left_first (get_or (take turn queue) k 0) m);
  behind = λ k lk l. absurd (omega arith);
}

-- halving upwards: where the middle has the lesser rank, the place is behind it
pub place-up : (rank : ℕ → ℕ) (queue : List ℕ) (x low high middle y : ℕ) → AscendsBy rank queue → IsPlaceWithin rank queue x low high
    → middle < length queue → y ≡ get_or queue middle 0 → true ≡ ltb (rank y) (rank x)
    → IsPlaceWithin rank queue x (middle + 1) high
place-up rank queue x low high middle y a p l at told = record {
  before = λ k lt.
      let here : rank (get_or queue middle 0) < rank x = subst (λ (n : ℕ). rank n < rank x) at (ltb-true _ _ (sym told)) in
      elim (cases_eq k middle) [
        | inl e ↦ subst (λ (n : ℕ). rank (get_or queue n 0) < rank x) (sym e) here
        | inr ne ↦ omega (arith, here, Ascends-at rank queue k middle a (omega arith) l)
      ];
  behind = p.behind;
}

-- halving downwards: where the middle does not have the lesser rank, the place is at most there
pub place-down : (rank : ℕ → ℕ) (queue : List ℕ) (x low high middle y : ℕ) → AscendsBy rank queue → IsPlaceWithin rank queue x low high
    → middle < length queue → y ≡ get_or queue middle 0 → false ≡ ltb (rank y) (rank x)
    → IsPlaceWithin rank queue x low middle
place-down rank queue x low high middle y a p l at told = record {
  before = p.before;
  behind = λ k le lk.
      let here : rank x ≤ rank (get_or queue middle 0) = subst (λ (n : ℕ). rank x ≤ rank n) at (not_less (rank y) (rank x) (sym told)) in
      elim (cases_eq k middle) [
        | inl e ↦ subst (λ (n : ℕ). rank x ≤ rank (get_or queue n 0)) (sym e) here
        | inr ne ↦ omega (arith, here, Ascends-at rank queue middle k a (omega arith) lk)
      ];
}

-- the queue has `x` then, and those that have left stay
pub passes-queue : (x : ℕ) (old new : Rising) → IsOrderly old → Passes x old new → (z : ℕ) → member z new.queue.items ≡ (member z old.queue.items || eqb z x)
passes-queue x old new o p z = elim (cases_Bool (is_queued old x)) [
  | inl k ↦
      ap (member z) (p.kept k)
      ∙ or-absorbs (member z old.queue.items) (eqb z x)
      (λ e. ap (λ n. member n old.queue.items) (eqb-true z x e) ∙ (sym (o.marked x) ∙ k))
  | inr n ↦ let q = p.queued n in ap (member z) q.3 ∙ inserted-has old.queue.items q.0 x z
]

-- those that have left the queue stay where a vertex gets one candidate more before it
pub passes-left : (x : ℕ) (old new : Rising) → IsOrderly old → Passes x old new → left new ≡ left old
passes-left x old new o p = ap (λ n. take n new.queue.items) p.turn ∙ elim (cases_Bool (is_queued old x)) [
  | inl k ↦ ap (take old.turn) (p.kept k)
  | inr n ↦ let q = p.queued n in ap (take old.turn) q.3 ∙ inserted-front old.queue.items old.turn q.0 x q.1 o.turn_in
]

-- the queue stays distinct, and does not get shorter, where a vertex gets one candidate more before it
passes-once : (x : ℕ) (old new : Rising) → IsOrderly old → Passes x old new → Distinct new.queue.items × (length old.queue.items ≤ length new.queue.items)
passes-once x old new o p = elim (cases_Bool (is_queued old x)) [
  | inl k ↦ (subst Distinct (sym (p.kept k)) o.once, let e : length new.queue.items ≡ length old.queue.items = ap length (p.kept k) in omega (arith, e))
  | inr n ↦
      let q = p.queued n in (
        subst Distinct (sym q.3) (inserted-once old.queue.items q.0 x o.once (sym (o.marked x) ∙ n)),
        let e : length new.queue.items ≡ length (insert old.queue.items q.0 x) = ap length q.3 in
            omega (arith, e, length-insert old.queue.items q.0 x q.2),
      )
]

-- a truth or what is false is that truth
none_more : (m e : Bool) → e ≡ false → m ≡ (m || e)
none_more m e h = grind arith

-- one candidate more before a vertex changes no later count
pub passes-later : (x : ℕ) (old new : Rising) → Passes x old new → (z : ℕ) → later_at new z ≡ later_at old z
passes-later x old new p z =
    elim (cases_eq z x)
    [ inl e ↦ ap (later_at new) e ∙ (ap later_in p.marks.here ∙ ap (later_at old) (sym e)) | inr ne ↦ ap later_in (p.marks.others z ne) ]

-- one candidate more before a vertex changes no turn
pub passes-turns : (x : ℕ) (old new : Rising) → Passes x old new → (z : ℕ) → turn_at new z ≡ turn_at old z
passes-turns x old new p z =
    elim (cases_eq z x)
    [ inl e ↦ ap (turn_at new) e ∙ (ap turn_in p.marks.here ∙ ap (turn_at old) (sym e)) | inr ne ↦ ap turn_in (p.marks.others z ne) ]

-- one candidate more before a vertex changes no candidate
pub passes-candidates : (x : ℕ) (old new : Rising) → Passes x old new → (z : ℕ) → is_candidate new z ≡ is_candidate old z
passes-candidates x old new p z =
    elim (cases_eq z x) [
      | inl e ↦ ap (is_candidate new) e ∙ (ap candidate_in p.marks.here ∙ ap (is_candidate old) (sym e))
      | inr ne ↦ ap candidate_in (p.marks.others z ne)
    ]

-- one candidate more before a vertex changes no weak one
pub passes-weak : (x : ℕ) (old new : Rising) → Passes x old new → (z : ℕ) → is_weak new z ≡ is_weak old z
passes-weak x old new p z =
    elim (cases_eq z x)
    [ inl e ↦ ap (is_weak new) e ∙ (ap weak_in p.marks.here ∙ ap (is_weak old) (sym e)) | inr ne ↦ ap weak_in (p.marks.others z ne) ]

-- one candidate more before a vertex keeps queue and marks orderly
pub passes-orderly : (x : ℕ) (old new : Rising) → IsOrderly old → Passes x old new → IsOrderly new
passes-orderly x old new o p =
    let stay : left new ≡ left old = passes-left x old new o p in
    let once = passes-once x old new o p in
    record {
      once = once.0;
      marked = λ z. elim (cases_eq z x) [
        | inl e ↦
            ap (is_queued new) e
            ∙
            (ap is_some p.marks.here ∙ sym (passes-queue x old new o p z ∙ or_right (member z old.queue.items) (eqb z x) (eq-eqb z x e)))
        | inr ne ↦
            ap is_some (p.marks.others z ne)
            ∙ (o.marked z ∙ (none_more (member z old.queue.items) (eqb z x) (ne_eqb z x ne) ∙ sym (passes-queue x old new o p z)))
      ];
      turn_in = omega (arith, p.turn, o.turn_in, once.1);
      turned = λ z c.
          let was : is_candidate old z ≡ true = sym (passes-candidates x old new p z) ∙ c in
          let k = o.turned z was in
          let at : turn_at new z ≡ turn_at old z = passes-turns x old new p z in
          let lt : turn_at old z < old.turn = k.0 in (
            omega (arith, at, p.turn, lt),
            ap (λ n. get_or new.queue.items n 0) at ∙ (sym (get_or-take new.turn new.queue.items (turn_at old z) 0 (omega (arith, p.turn, lt)))
                ∙ (ap (λ xs. get_or xs (turn_at old z) 0) stay ∙ (get_or-take old.turn old.queue.items (turn_at old z) 0 lt ∙ k.1))),
          );
      weak_once = subst Distinct (sym p.weak) o.weak_once;
      weak_marked = λ z. passes-weak x old new p z ∙ (o.weak_marked z ∙ sym (ap (member z) p.weak));
      weak_left = λ z m. ap (member z) stay ∙ o.weak_left z (sym (ap (member z) p.weak) ∙ m);
      shifted =
          ap firsts p.shifts
          ∙ (o.shifted ∙ sym (ap (λ xs. take (length new.shifts.items) xs) p.weak ∙ ap (λ xs. take (length xs) old.seen.weak.items) p.shifts));
      anchored = λ z m. ap (member z) stay ∙ o.anchored z (sym (ap (λ xs. member z (seconds xs)) p.shifts) ∙ m);
    }

-- one candidate more before a vertex, whose core number was asked, keeps the search tidy
pub passes-tidy : (update : Update) (shown : Shown) (x : ℕ) (old new : Rising) → IsTidyRising update shown old → Passes x old new
    → x < shown.size → has_core shown.kept x ≡ true → IsTidyRising update shown new
passes-tidy update shown x old new t p l placed =
    tidy-rising update shown old new t (passes-orderly x old new t.orderly p)
    (λ z m. passes-queue x old new t.orderly p z ∙ or_left (member z old.queue.items) (eqb z x) m)
    (λ z m. elim (or_cases (member z old.queue.items) (eqb z x) (sym (passes-queue x old new t.orderly p z) ∙ m)) [
      | inl k ↦ inl k
      | inr e ↦ let at : z ≡ x = eqb-true z x e in inr (omega (arith, l, at), ap (has_core shown.kept) at ∙ placed)
    ])
    (λ z n. inl (elim (named-cases new z n) [
      | inl c ↦ named-candidate old z (sym (passes-candidates x old new p z) ∙ c)
      | inr (inl m) ↦ named-weak old z (sym (ap (member z) p.weak) ∙ m)
      | inr (inr m) ↦ named-anchor old z (sym (ap (λ xs. member z (seconds xs)) p.shifts) ∙ m)
    ]))

-- where nobody got a candidate more before it, nothing has changed
pub passed-none : (r : Rising) → PassedOn [] r r
passed-none r = record {
  earlier = λ z _. omega arith;
  later = λ z. refl;
  candidates = λ z. refl;
  queue = λ z. none_more (member z r.queue.items) false refl;
  same_left = refl;
  turn = refl;
  weak = refl;
  shifts = refl;
}

-- the earlier count after some got a candidate more before them, and then one more did
one_more : (c b a : ℕ) (mx m e : Bool) → (m ≡ true → a < 2 ^ 64 - 1) → b ≡ a + cond m 1 0 → c ≡ cond e (min (b + 1) (2 ^ 64 - 1)) b
    → mx ≡ (m || e) → (e ≡ true → m ≡ false) → (mx ≡ true → a < 2 ^ 64 - 1) → c ≡ a + cond mx 1 0
one_more c b a mx m e few h k q apart small = grind (arith, h, k, q, apart, small)

-- who is queued after some were, and then one more was
queued_more : (c b a mx m e : Bool) → b ≡ (a || m) → c ≡ (b || e) → mx ≡ (m || e) → c ≡ (a || mx)
queued_more c b a mx m e h k q = grind arith

-- after some got a candidate more before them, one more does
pub passed-more : (x : ℕ) (xs : List ℕ) (old mid new : Rising) → IsOrderly mid → PassedOn xs old mid → Passes x mid new
    → member x xs ≡ false → PassedOn (xs ++ x ∷ []) old new
passed-more x xs old mid new o d p late =
    let apart : (z : ℕ) → eqb z x ≡ true → member z xs ≡ false = λ z e. ap (λ n. member n xs) (eqb-true z x e) ∙ late in
    record {
      earlier = λ z small.
          let here : earlier_at new z ≡ cond (eqb z x) (min (earlier_at mid z + 1) (2 ^ 64 - 1)) (earlier_at mid z) = elim (cases_eq z x) [
            | inl e ↦
                ap (earlier_at new) e
                ∙
                (ap earlier_in p.marks.here
                ∙ sym
                (ap (λ b. cond b (min (earlier_at mid z + 1) (2 ^ 64 - 1)) (earlier_at mid z)) (eq-eqb z x e)
                ∙ ap (λ n. min (earlier_at mid n + 1) (2 ^ 64 - 1)) e))
            | inr ne ↦ ap earlier_in (p.marks.others z ne) ∙ sym (ap (λ b. cond b (min (earlier_at mid z + 1) (2 ^ 64 - 1)) (earlier_at mid z)) (ne_eqb z x ne))
          ] in
          let m : member z (xs ++ x ∷ []) ≡ (member z xs || eqb z x) = member-push z x xs in
          let before : (member z xs ≡ true → earlier_at old z < 2 ^ 64 - 1) = λ k. small (m ∙ or_left (member z xs) (eqb z x) k) in
          one_more (earlier_at new z) (earlier_at mid z) (earlier_at old z) (member z (xs ++ x ∷ [])) (member z xs) (eqb z x) before
          (d.earlier z before) here m (apart z) small;
      later = λ z. passes-later x mid new p z ∙ d.later z;
      candidates = λ z. passes-candidates x mid new p z ∙ d.candidates z;
      queue =
          λ z.
          queued_more (member z new.queue.items) (member z mid.queue.items) (member z old.queue.items) (member z (xs ++ x ∷ []))
          (member z xs) (eqb z x) (d.queue z) (passes-queue x mid new o p z) (member-push z x xs);
      same_left = passes-left x mid new o p ∙ d.same_left;
      turn = p.turn ∙ d.turn;
      weak = p.weak ∙ d.weak;
      shifts = p.shifts ∙ d.shifts;
    }

-- where `x` goes to its place the queue stays in order
pub passes-ascends : (rank : ℕ → ℕ) (x place : ℕ) (queue new : List ℕ) → new ≡ insert queue place x → member x queue ≡ false
    → place ≤ length queue → IsPlaceWithin rank queue x place place → ((z : ℕ) → member z queue ≡ true → rank z ≡ rank x → z ≡ x)
    → AscendsBy rank queue → AscendsBy rank new
passes-ascends rank x place queue new e out le p apart up =
    subst (AscendsBy rank) (sym e)
    (inserted-ascends rank queue place x up le p.before p.behind
    (λ z m k. true≢false (sym m ∙ (ap (λ n. member n queue) (apart z m k) ∙ out))))

-- a vertex that was never queued gets its first candidate before it where it is queued
pub enqueued-passes : (x place : ℕ) (old new : Rising) → value_of old.seen.marks x ≡ None
    → MarksOne x (record { earlier = 1; later = 0; turn = 0; is_candidate = false; is_weak = false }) old.seen new.seen
    → new.queue.items ≡ insert old.queue.items place x
    → (new.turn ≡ old.turn) × (new.seen.weak.items ≡ old.seen.weak.items) × (new.shifts.items ≡ old.shifts.items) → old.turn ≤ place
    → place ≤ length old.queue.items → Passes x old new
enqueued-passes x place old new none marks queue rest from le = record {
  marks = record {
    here =
        marks.here
        ∙ ap Some
        (sym
        (ap
        (λ (o : Option Mark).
        record {
          earlier = min (earlier_in o + 1) (2 ^ 64 - 1);
          later = later_in o;
          turn = turn_in o;
          is_candidate = candidate_in o;
          is_weak = weak_in o;
        })
        none));
    others = marks.others;
  };
  kept = λ k. absurd (true≢false (sym k ∙ ap is_some none));
  queued = λ _. (place, from, le, queue);
  turn = rest.0;
  weak = rest.1;
  shifts = rest.2;
}
