-- Only the root is queued: this is tidy for every view, and the search can begin.
use Rattle.std.proofs.Common.{◌≡◌, ◌<◌, ℕ, true, false, cond, List, [], ◌∷◌, length, take, drop, refl, sym, ◌∙◌, ap, subst, inl, inr, arith, true≢false}
use Rattle.std.specs.Prelude.{is_some}
use Rattle.std.specs.List.{filter}
use Rattle.std.proofs.lemmas.Bool.{cases_eq, false≢true}
use Rattle.kc_lists.specs.Lists.{member, Distinct}
use Rattle.kc_lists.proofs.Members.{member-head, member-cases, not_member-cons}
use Rattle.kc_graph.specs.declared.update.Update.{Update}
use Rattle.kc_cert.specs.Local.{firsts, seconds}
use Rattle.kc_cert.specs.Ranks.{AscendsBy}
use Rattle.kc_view.specs.Answers.{has_core}
use Rattle.kc_view.specs.Search.{Search, Forward, at_root}
use Rattle.kc_view.specs.Views.{Shown}
use Rattle.kc_insert.specs.Marks.{candidate_in, weak_in, earlier_in}
use Rattle.kc_insert.specs.Rising.{is_queued, is_candidate, is_weak, earlier_at, later_at, cands, left, waiting, IsOrderly, AsksQueued, IsTidyRising}
use Rattle.kc_insert.specs.Searching.{Widened, BetweenTurns}
use Rattle.kc_insert.specs.Turns.{Begins, IsBetweenTurns}
use Rattle.kc_insert.specs.declared.rising.Rising.{Rising}
use Rattle.kc_insert.proofs.Tidy.{asks-queued, named-cases}
use Rattle.kc_insert.proofs.Turning.{turns-begin}

-- where only the root is queued nobody is a candidate
no-candidate : (root : ℕ) (r : Rising) → Begins root r → (z : ℕ) → is_candidate r z ≡ false
no-candidate root r b z = elim (cases_eq z root) [ inl e ↦ ap (is_candidate r) e ∙ ap candidate_in b.here | inr ne ↦ ap candidate_in (b.others z ne) ]

-- where only the root is queued nobody is weak
no-weak : (root : ℕ) (r : Rising) → Begins root r → (z : ℕ) → is_weak r z ≡ false
no-weak root r b z = elim (cases_eq z root) [ inl e ↦ ap (is_weak r) e ∙ ap weak_in b.here | inr ne ↦ ap weak_in (b.others z ne) ]

-- where only the root is queued nobody has a candidate before it
no-earlier : (root : ℕ) (r : Rising) → Begins root r → (z : ℕ) → earlier_at r z ≡ 0
no-earlier root r b z = elim (cases_eq z root) [ inl e ↦ ap (earlier_at r) e ∙ ap earlier_in b.here | inr ne ↦ ap earlier_in (b.others z ne) ]

-- where only the root is queued nobody has left the queue
none-left : (root : ℕ) (r : Rising) → Begins root r → left r ≡ []
none-left root r b = ap (λ n. take n r.queue.items) b.turn

-- where only the root is queued, queue and marks are orderly
begin-orderly : (root : ℕ) (r : Rising) → Begins root r → IsOrderly r
begin-orderly root r b = record {
  once = subst Distinct (sym b.queue) (refl, tt);
  marked = λ z. elim (cases_eq z root) [
    | inl e ↦ ap (is_queued r) e ∙ (ap is_some b.here ∙ sym (ap (member z) b.queue ∙ (ap (λ y. member y (root ∷ [])) e ∙ member-head root [])))
    | inr ne ↦ ap is_some (b.others z ne) ∙ sym (ap (member z) b.queue ∙ not_member-cons z root [] ne refl)
  ];
  turn_in = omega (arith, b.turn);
  turned = λ z c. absurd (true≢false (sym c ∙ no-candidate root r b z));
  weak_once = subst Distinct (sym b.weak) tt;
  weak_marked = λ z. no-weak root r b z ∙ sym (ap (member z) b.weak);
  weak_left = λ z m. absurd (true≢false (sym m ∙ ap (member z) b.weak));
  shifted = ap firsts b.shifts ∙ sym (ap (λ xs. take (length xs) r.seen.weak.items) b.shifts);
  anchored = λ z m. absurd (true≢false (sym m ∙ ap (λ xs. member z (seconds xs)) b.shifts));
}

-- where only the root is queued, who is queued is the root
only-root : (root : ℕ) (r : Rising) → Begins root r → (z : ℕ) → member z r.queue.items ≡ true → z ≡ root
only-root root r b z m = elim (member-cases z root [] (sym (ap (member z) b.queue) ∙ m)) [ inl e ↦ e | inr k ↦ absurd (false≢true k) ]

-- where only the root is queued, and its core number was asked, the search is tidy
pub begin-tidy : (update : Update) (shown : Shown) (root : ℕ) (r : Rising) → Begins root r → root < shown.size
    → has_core shown.kept root ≡ true → AsksQueued update shown.kept [] → IsTidyRising update shown r
begin-tidy update shown root r b l placed asks = record {
  orderly = begin-orderly root r b;
  within = λ z m. let e : z ≡ root = only-root root r b z m in omega (arith, e, l);
  placed = λ z m. ap (has_core shown.kept) (only-root root r b z m) ∙ placed;
  read = λ z n. elim (named-cases r z n) [
    | inl c ↦ absurd (true≢false (sym c ∙ no-candidate root r b z))
    | inr (inl m) ↦ absurd (true≢false (sym m ∙ ap (member z) b.weak))
    | inr (inr m) ↦ absurd (true≢false (sym m ∙ ap (λ xs. member z (seconds xs)) b.shifts))
  ];
  asks = asks-queued update shown.kept [] r.queue.items asks (λ x m. absurd (false≢true m));
}

-- where the root has too many later neighbours, the search begins between two turns
pub begin-between : (s : Search) (root : ℕ) (r : Rising) → Begins root r → Widened s root → IsBetweenTurns s root r
begin-between s root r b w =
    let none : cands r ≡ [] = ap (filter (is_candidate r)) b.queue ∙ ap (λ k. cond k (root ∷ []) []) (no-candidate root r b root) in
    let waits : waiting r ≡ root ∷ [] = ap (λ n. drop n r.queue.items) b.turn ∙ b.queue in
    let turns : BetweenTurns s root [] (root ∷ []) (s.rank root) (earlier_at r) (later_at r) [] =
    turns-begin s root w (earlier_at r) (later_at r) (no-earlier root r b) in (
      s.rank root,
      record {
        lined = record {
          ascends = subst (AscendsBy s.rank) (sym b.queue) (λ y m. absurd (false≢true m), tt);
          reached = λ z m. subst (Forward s root) (sym (only-root root r b z m)) at_root;
          passed = λ z m. absurd (true≢false (sym m ∙ ap (member z) (none-left root r b)));
        };
        turns = subst (λ (xs : List ℕ). BetweenTurns s root xs (waiting r) (s.rank root) (earlier_at r) (later_at r) r.shifts.items) (sym none)
            (subst (λ (xs : List ℕ). BetweenTurns s root [] xs (s.rank root) (earlier_at r) (later_at r) r.shifts.items) (sym waits)
            (subst (λ (xs : List (ℕ × ℕ)). BetweenTurns s root [] (root ∷ []) (s.rank root) (earlier_at r) (later_at r) xs) (sym b.shifts) turns));
        calm = omega (arith, ap length b.shifts, ap length b.weak);
      },
    )
