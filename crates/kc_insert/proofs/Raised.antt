-- The first of those that wait becomes a candidate: a step of the search.
use Rattle.std.proofs.Common.{◌≡◌, ◌≢◌, ◌≤◌, ◌<◌, ◌+◌, ◌-◌, ◌^◌, ◌&&◌, ◌||◌, ℕ, Bool, true, false, cond, not, List, [], ◌∷◌, ◌++◌, length, drop}
use Rattle.std.proofs.Common.{get_or, eqb, ltb, sym, ◌∙◌, ap, subst, inl, inr, arith, true≢false, ltb-true}
use Rattle.std.specs.Prelude.{count_by}
use Rattle.std.proofs.lemmas.Bool.{cases_eq, or_cases, or_right, and_parts, false_from_ne_true}
use Rattle.std.proofs.lemmas.List.{drop_more}
use Rattle.kc_lists.specs.Lists.{member, below}
use Rattle.kc_lists.proofs.Members.{member-head}
use Rattle.kc_lists.proofs.Counting.{member-get_or, member-push_cases, Distinct-below, count-le, count-miss, one_if}
use Rattle.kc_cert.specs.Ranks.{AscendsBy}
use Rattle.kc_view.specs.Search.{Search, after, OnLevel, Forward, at_root, further}
use Rattle.kc_insert.specs.Marks.{earlier_in, later_in, candidate_in}
use Rattle.kc_insert.specs.Rising.{earlier_at, later_at, is_candidate, cands, left, waiting, IsOrderly}
use Rattle.kc_insert.specs.Searching.{Widened, coming, BetweenTurns}
use Rattle.kc_insert.specs.Turns.{LeavesQueue, PassedOn, IsAheadOf, StandsBehindLeft, BetweenAt, IsBetweenTurns}
use Rattle.kc_insert.specs.declared.ahead.Ahead.{Ahead}
use Rattle.kc_insert.specs.declared.rising.Mark.{Mark}
use Rattle.kc_insert.specs.declared.rising.Rising.{Rising}
use Rattle.kc_insert.proofs.Losses.{cands-has, cand-left, cand-queued}
use Rattle.kc_insert.proofs.Queues.{Ascends-drop, drop-has}
use Rattle.kc_insert.proofs.Tidy.{left-more, first-not_left}
use Rattle.kc_insert.proofs.Turning.{turn_raise}

-- no count of candidates comes to the end of its type
pub few-coming : (s : Search) (r : Rising) (w z : ℕ) → IsOrderly r → member w r.queue.items ≡ true → is_candidate r w ≡ false
    → coming s (cands r) z < length r.queue.items
few-coming s r w z o m none =
    let p : ℕ → Bool = λ y. s.adj z y && (member y (cands r) && after s y z) in
    let cand : (y : ℕ) → p y ≡ true → is_candidate r y ≡ true =
    λ y t.
    sym (cands-has r o y)
    ∙ (and_parts (member y (cands r)) (after s y z) (and_parts (s.adj z y) (member y (cands r) && after s y z) t).1).0 in
    let some : coming s (cands r) z ≤ count_by p r.queue.items =
    count-le p (below s.size) r.queue.items (Distinct-below s.size) (λ y _ t. cand-queued r o y (cand y t)) in
    let less : count_by p r.queue.items < length r.queue.items =
    count-miss p w r.queue.items m (false_from_ne_true _ (λ t. true≢false (sym (cand w t) ∙ none))) in
    omega (arith, some, less)

-- the queue behind the first of those that wait
pub waiting-next : (w : ℕ) (mark : Mark) (old new : Rising) → LeavesQueue w mark old new → old.turn < length old.queue.items
    → get_or old.queue.items old.turn 0 ≡ w → waiting old ≡ w ∷ waiting new
waiting-next w mark old new l lt first = drop_more old.queue.items old.turn 0 lt ∙ (ap (λ y. y ∷ drop (old.turn + 1) old.queue.items) first
    ∙ ap (λ ys. w ∷ ys) (sym (ap (λ xs. drop new.turn xs) l.queue ∙ ap (λ n. drop n old.queue.items) l.turn)))

-- a vertex that the search reaches from the root is on the level
reached-level : (q : Search) (root x : ℕ) → Widened q root → Forward q root x → OnLevel q x
reached-level q root x c at_root = record { here = c.root_here; level = c.root_level }
reached-level q root x c (further y z r o a l) = o

-- what is passed on stands behind those that have left, and apart from all that are queued
pub stands-behind : (q : Search) (root w frontier : ℕ) (mark : Mark) (a : Ahead) (old mid : Rising) → Widened q root → IsOrderly old
    → LeavesQueue w mark old mid → old.turn < length old.queue.items → get_or old.queue.items old.turn 0 ≡ w
    → IsAheadOf q w a → BetweenAt q root old frontier → (y : ℕ) → member y a.next.items ≡ true → StandsBehindLeft q.rank mid a.next.items y
stands-behind q root w frontier mark a old mid c o l lt first ahead' b y m =
    let only = ahead'.only y m in
    let up : q.rank w < q.rank y = ltb-true (q.rank w) (q.rank y) only.2 in
    let w_open : frontier ≤ q.rank w = b.turns.searching.queue_open w (ap (member w) (waiting-next w mark old mid l lt first) ∙ member-head w (waiting mid)) in
    record {
      behind = λ z in'. elim (member-push_cases z w (left old) (sym (ap (member z) (left-more w mark old mid l lt first)) ∙ in')) [
        | inl k ↦ omega (arith, b.lined.passed z k, w_open, up)
        | inr e ↦ subst (λ (n : ℕ). q.rank n < q.rank y) (sym e) up
      ];
      apart = λ z in' k.
          let oz : OnLevel q z =
          elim in'
          [ inl k' ↦ reached-level q root z c (b.lined.reached z (sym (ap (member z) l.queue) ∙ k')) | inr k' ↦ (ahead'.only z k').0 ] in
          c.apart z y oz.here only.0.here k;
    }

-- a count stays where nothing is added
no_more : (n : ℕ) (t : Bool) → t ≡ false → n + cond t 1 0 ≡ n
no_more n t e = grind arith

-- a count is greater by one where the neighbour comes later
some_one : (n m : ℕ) (h a f : Bool) → n ≡ m + cond h 1 0 → h ≡ (a && f) → n ≡ m + cond (a && f) 1 0
some_one n m h a f e ha = grind arith

-- nothing comes after itself
not-after : (a : Bool) (k : ℕ) → (a && ltb k k) ≡ false
not-after a k = grind arith

-- who waits after some are queued: those that waited, and they
in_rest : (c' c t' t h : Bool) → c' ≡ (c || h) → t' ≡ t → (t ≡ true → h ≡ false) → (c' && not t') ≡ ((c && not t) || h)
in_rest c' c t' t h e f g = grind arith

-- whoever waits is queued and has not left
waiting-queued : (r : Rising) → IsOrderly r → (z : ℕ) → member z (waiting r) ≡ (member z r.queue.items && not (member z (left r)))
waiting-queued r o z = drop-has r.turn z r.queue.items o.once

-- the first of those that wait becomes a candidate, and the search is between two turns again
pub raised-now : (q : Search) (root w : ℕ) (mark : Mark) (a : Ahead) (old mid new : Rising) → Widened q root → IsOrderly old → IsOrderly mid
    → IsOrderly new → LeavesQueue w mark old mid → mark.is_candidate ≡ true → mark.earlier ≡ earlier_at old w → mark.later ≡ a.count
    → PassedOn a.next.items mid new → old.turn < length old.queue.items → get_or old.queue.items old.turn 0 ≡ w
    → length old.queue.items < 2 ^ 64 → q.level < earlier_at old w + a.count → IsAheadOf q w a
    → (AscendsBy q.rank mid.queue.items → AscendsBy q.rank new.queue.items)
    → IsBetweenTurns q root old → IsBetweenTurns q root new
raised-now q root w mark a old mid new c o om on l cand same_earlier same_later p lt first fits strong ahead' up (frontier, b) =
    let next : List ℕ = a.next.items in
    let s = b.turns.searching in
    let first_waits : waiting old ≡ w ∷ waiting mid = waiting-next w mark old mid l lt first in
    let w_waits : member w (waiting old) ≡ true = ap (member w) first_waits ∙ member-head w (waiting mid) in
    let ow : OnLevel q w = s.queue_level w w_waits in
    let w_open : frontier ≤ q.rank w = s.queue_open w w_waits in
    let w_out : member w (left old) ≡ false = first-not_left w old o lt first in
    let w_in : member w old.queue.items ≡ true = subst (λ (y : ℕ). member y old.queue.items ≡ true) first (member-get_or old.queue.items old.turn 0 lt) in
    let w_no : is_candidate old w ≡ false = false_from_ne_true _ (λ t. true≢false (sym (cand-left old o w t) ∙ w_out)) in
    let marked : (z : ℕ) → z ≢ w → earlier_at mid z ≡ earlier_at old z = λ z ne. ap earlier_in (l.marks.others z ne) in
    let small : (z : ℕ) → member z next ≡ true → earlier_at mid z < 2 ^ 64 - 1 = λ z m.
    let only = ahead'.only z m in
    let up' : q.rank w < q.rank z = ltb-true (q.rank w) (q.rank z) only.2 in
    let ne : z ≢ w = λ e. let k : q.rank z ≡ q.rank w = ap q.rank e in absurd (omega arith) in
    let is : earlier_at old z ≡ coming q (cands old) z = s.earlier_of_open z only.0 (omega arith) in
    omega (arith, marked z ne, is, few-coming q old w z o w_in w_no, fits) in
    let counted : (z : ℕ) → earlier_at new z ≡ earlier_at mid z + cond (member z next) 1 0 = λ z. p.earlier z (small z) in
    let w_next : member w next ≡ false =
    false_from_ne_true _ (λ m. let k : q.rank w < q.rank w = ltb-true (q.rank w) (q.rank w) (ahead'.only w m).2 in absurd (omega arith)) in
    let w_earlier : earlier_at new w ≡ earlier_at old w =
    let k : one_if (member w next) ≡ 0 = ap one_if w_next in
    omega (arith, counted w, k, ap earlier_in l.marks.here, same_earlier) in
    let w_later : later_at new w ≡ a.count = p.later w ∙ (ap later_in l.marks.here ∙ same_later) in
    let cand_is : (z : ℕ) → z ≢ w → is_candidate new z ≡ is_candidate old z = λ z ne. p.candidates z ∙ ap candidate_in (l.marks.others z ne) in
    let queue_is : (z : ℕ) → member z new.queue.items ≡ (member z old.queue.items || member z next) =
    λ z. p.queue z ∙ ap (λ xs. member z xs || member z next) l.queue in
    let left_is : left new ≡ left old ++ w ∷ [] = p.same_left ∙ left-more w mark old mid l lt first in
    let not_left : (z : ℕ) → member z next ≡ true → member z (left mid) ≡ false = λ z m. false_from_ne_true _ (λ k.
    let up' : q.rank w < q.rank z = ltb-true (q.rank w) (q.rank z) (ahead'.only z m).2 in
    elim (member-push_cases z w (left old) (sym (ap (member z) (left-more w mark old mid l lt first)) ∙ k)) [
      | inl k' ↦ absurd (omega (arith, b.lined.passed z k', w_open, up'))
      | inr e ↦ let k' : q.rank z ≡ q.rank w = ap q.rank e in absurd (omega (arith, up'))
    ]) in
    let waits_is : (z : ℕ) → member z (waiting new) ≡ (member z (waiting mid) || member z next) = λ z.
    waiting-queued new on z ∙ (in_rest (member z new.queue.items) (member z mid.queue.items) (member z (left new)) (member z (left mid))
    (member z next) (p.queue z) (ap (member z) p.same_left)
    (λ k. false_from_ne_true _ (λ m. true≢false (sym k ∙ not_left z m))) ∙ ap (λ t. t || member z next) (sym (waiting-queued mid om z))) in
    let ascends : AscendsBy q.rank new.queue.items = up (subst (AscendsBy q.rank) (sym l.queue) b.lined.ascends) in (
      q.rank w + 1,
      record {
        lined = record {
          ascends = ascends;
          reached = λ z m. elim (or_cases (member z old.queue.items) (member z next) (sym (queue_is z) ∙ m)) [
            | inl k ↦ b.lined.reached z k
            | inr k ↦ let only = ahead'.only z k in further w z (b.lined.reached w w_in) only.0 only.1 (ltb-true (q.rank w) (q.rank z) only.2)
          ];
          passed = λ z m. elim (member-push_cases z w (left old) (sym (ap (member z) left_is) ∙ m)) [
            | inl k ↦ omega (arith, b.lined.passed z k, w_open)
            | inr e ↦ let k : q.rank z ≡ q.rank w = ap q.rank e in omega (arith, k)
          ];
        };
        turns = subst (BetweenTurns q root (cands new) (waiting new) (q.rank w + 1) (earlier_at new) (later_at new)) (sym (p.shifts ∙ l.shifts))
            (turn_raise q root (cands old) (waiting mid) w frontier (earlier_at old) (later_at old) old.shifts.items c
            (subst (λ (xs : List ℕ). BetweenTurns q root (cands old) xs frontier (earlier_at old) (later_at old) old.shifts.items) first_waits b.turns)
            (cands new) (waiting new) (earlier_at new) (later_at new) (record {
              strong = omega (arith, strong, w_later);
              counted = w_later ∙ ahead'.count;
              later_kept = λ x m.
                  let ne : x ≢ w = λ e. true≢false (sym (sym (cands-has old o x) ∙ m) ∙ (ap (is_candidate old) e ∙ w_no)) in
                  p.later x ∙ ap later_in (l.marks.others x ne);
              more = λ y oy. elim (cases_eq y w) [
                | inl e ↦
                    let none : (q.adj w y && after q w y) ≡ false = ap (λ n. q.adj w n && after q w n) e ∙ not-after (q.adj w w) (q.rank w) in
                    ap (earlier_at new) e ∙ (w_earlier ∙ (ap (earlier_at old) (sym e) ∙ sym (no_more (earlier_at old y) (q.adj w y && after q w y) none)))
                | inr ne ↦
                    some_one (earlier_at new y) (earlier_at old y) (member y next) (q.adj w y) (after q w y)
                    (counted y ∙ ap (λ n. n + cond (member y next) 1 0) (marked y ne)) (ahead'.next y oy)
              ];
              added = record {
                itself = cands-has new on w ∙ (p.candidates w ∙ (ap candidate_in l.marks.here ∙ cand));
                others = λ y ne. cands-has new on y ∙ (cand_is y ne ∙ sym (cands-has old o y));
              };
              queue_ascends = Ascends-drop q.rank new.turn new.queue.items ascends;
              queue_from = λ y oy. waits_is y ∙ ap (λ t. member y (waiting mid) || t) (ahead'.next y oy);
              queue_level = λ y m. elim (or_cases (member y (waiting mid)) (member y next) (sym (waits_is y) ∙ m)) [
                | inl k ↦ s.queue_level y (ap (member y) first_waits ∙ or_right (eqb y w) (member y (waiting mid)) k)
                | inr k ↦ (ahead'.only y k).0
              ];
            }));
        calm = ap length (p.shifts ∙ l.shifts) ∙ (b.calm ∙ sym (ap length (p.weak ∙ l.weak)));
      },
    )
