-- A vertex that has no candidate before it leaves the queue, and nothing else changes.
use Rattle.std.proofs.Common.{◌≡◌, ◌≢◌, ◌≤◌, ◌<◌, ◌+◌, ℕ, true, false, ◌&&◌, List, ◌∷◌, length, get_or, refl, sym, ◌∙◌, ap, subst, inl, inr, arith, true≢false}
use Rattle.std.proofs.lemmas.Bool.{cases_eq, false_from_ne_true}
use Rattle.std.proofs.lemmas.List.{length-take}
use Rattle.kc_lists.specs.Lists.{member}
use Rattle.kc_lists.proofs.Counting.{member-get_or, member-push_cases, member-filter}
use Rattle.kc_lists.proofs.Members.{member-head}
use Rattle.kc_cert.specs.Ranks.{AscendsBy}
use Rattle.kc_cert.proofs.Final.{filter-has}
use Rattle.kc_view.specs.Search.{Search, OnLevel, Forward, at_root, further}
use Rattle.kc_insert.specs.Marks.{candidate_in, earlier_in, later_in}
use Rattle.kc_insert.specs.Rising.{is_candidate, earlier_at, later_at, cands, left, waiting, IsOrderly}
use Rattle.kc_insert.specs.Searching.{ahead, Widened, BetweenTurns}
use Rattle.kc_insert.specs.Turns.{LeavesQueue, IsBetweenTurns}
use Rattle.kc_insert.specs.declared.rising.Mark.{Mark}
use Rattle.kc_insert.specs.declared.rising.Rising.{Rising}
use Rattle.kc_insert.proofs.Losses.{cand-left}
use Rattle.kc_insert.proofs.Raised.{waiting-next}
use Rattle.kc_insert.proofs.Steps.{ahead-later}
use Rattle.kc_insert.proofs.Tidy.{left-queued, left-more, first-not_left}
use Rattle.kc_insert.proofs.Turning.{turn_pass, turn_same}

-- the first of those that wait is no candidate
pub first-no_candidate : (w : ℕ) (r : Rising) → IsOrderly r → r.turn < length r.queue.items → get_or r.queue.items r.turn 0 ≡ w → is_candidate r w ≡ false
first-no_candidate w r o lt first = false_from_ne_true _ (λ c. true≢false (sym (cand-left r o w c) ∙ first-not_left w r o lt first))

-- only the later neighbours of candidates count
pub later-of_cands : (s : Search) (root : ℕ) (cands queue : List ℕ) (frontier : ℕ) (earlier later : ℕ → ℕ) (shifts : List (ℕ × ℕ))
    → BetweenTurns s root cands queue frontier earlier later shifts
    → (later' : ℕ → ℕ) → ((x : ℕ) → member x cands ≡ true → later' x ≡ later x) → BetweenTurns s root cands queue frontier earlier later' shifts
later-of_cands s root cands queue frontier earlier later shifts b later' same =
    let h = b.searching in
    record {
      searching = record {
        cand_level = h.cand_level;
        cand_passed = h.cand_passed;
        queue_level = h.queue_level;
        queue_open = h.queue_open;
        queue_ascends = h.queue_ascends;
        root_queued = h.root_queued;
        queued = h.queued;
        earlier_of_cand = h.earlier_of_cand;
        earlier_of_open = h.earlier_of_open;
        later_of_cand = λ x m. same x m ∙ h.later_of_cand x m;
        done = h.done;
        open_kept = h.open_kept;
        passed_first = h.passed_first;
        lower_first = h.lower_first;
        higher_last = h.higher_last;
        others_kept = h.others_kept;
      };
      strong = record { strong = λ x m. omega (arith, same x m, b.strong.strong x m) };
      shifts_fit = b.shifts_fit;
    }

-- where a vertex with no candidate before it and few ahead leaves the queue, the search is between two turns again
pub pass-between : (s : Search) (root w : ℕ) (old new : Rising) → Widened s root → IsOrderly old → old.turn < length old.queue.items
    → get_or old.queue.items old.turn 0 ≡ w
    → LeavesQueue w (record { earlier = 0; later = 0; turn = 0; is_candidate = false; is_weak = false }) old new → ahead s w ≤ s.level
    → earlier_at old w ≡ 0 → IsBetweenTurns s root old → IsBetweenTurns s root new
pass-between s root w old new c o lt first l few none (f, b) =
    let mark : Mark = record { earlier = 0; later = 0; turn = 0; is_candidate = false; is_weak = false } in
    let rest : List ℕ = waiting new in
    let waits : waiting old ≡ w ∷ rest = waiting-next w mark old new l lt first in
    let before : BetweenTurns s root (cands old) (w ∷ rest) f (earlier_at old) (later_at old) old.shifts.items =
    subst (λ (xs : List ℕ). BetweenTurns s root (cands old) xs f (earlier_at old) (later_at old) old.shifts.items) waits b.turns in
    let open' : f ≤ s.rank w = before.searching.queue_open w (member-head w rest) in
    let passed = turn_pass s root (cands old) rest w f (earlier_at old) (later_at old) old.shifts.items c before few none in
    let was : is_candidate old w ≡ false = first-no_candidate w old o lt first in
    let cand : (y : ℕ) → is_candidate new y ≡ is_candidate old y = λ y. elim (cases_eq y w) [
      | inl e ↦ ap (is_candidate new) e ∙ (ap candidate_in l.marks.here ∙ sym (ap (is_candidate old) e ∙ was))
      | inr ne ↦ ap candidate_in (l.marks.others y ne)
    ] in
    let same : (y : ℕ) → member y (cands new) ≡ member y (cands old) = λ y.
    filter-has (is_candidate new) y new.queue.items
    ∙
    (ap (λ xs. member y xs && is_candidate new y) l.queue
    ∙ (ap (λ k. member y old.queue.items && k) (cand y) ∙ sym (filter-has (is_candidate old) y old.queue.items))) in
    let earlier : (y : ℕ) → earlier_at new y ≡ earlier_at old y = λ y. elim (cases_eq y w) [
      | inl e ↦ ap (earlier_at new) e ∙ (ap earlier_in l.marks.here ∙ sym (ap (earlier_at old) e ∙ none))
      | inr ne ↦ ap earlier_in (l.marks.others y ne)
    ] in
    let later : (y : ℕ) → member y (cands old) ≡ true → later_at new y ≡ later_at old y = λ y m. elim (cases_eq y w) [
      | inl e ↦ absurd (true≢false (sym (member-filter (is_candidate old) y old.queue.items m).1 ∙ (ap (is_candidate old) e ∙ was)))
      | inr ne ↦ ap later_in (l.marks.others y ne)
    ] in
    let now : BetweenTurns s root (cands new) rest (s.rank w + 1) (earlier_at new) (later_at new) old.shifts.items =
    turn_same s root (cands old) rest (s.rank w + 1) (earlier_at old) (later_at new) old.shifts.items
    (later-of_cands s root (cands old) rest (s.rank w + 1) (earlier_at old) (later_at old) old.shifts.items passed (later_at new) later)
    (cands new) (earlier_at new) (later_at new) same earlier (λ y. refl) in (
      s.rank w + 1,
      record {
        lined = record {
          ascends = subst (AscendsBy s.rank) (sym l.queue) b.lined.ascends;
          reached = λ z m. b.lined.reached z (sym (ap (member z) l.queue) ∙ m);
          passed = λ z m. elim (member-push_cases z w (left old) (sym (ap (member z) (left-more w mark old new l lt first)) ∙ m)) [
            | inl k ↦ omega (arith, b.lined.passed z k, open')
            | inr e ↦ let k : s.rank z ≡ s.rank w = ap s.rank e in omega (arith, k)
          ];
        };
        turns = subst (λ (xs : List (ℕ × ℕ)). BetweenTurns s root (cands new) rest (s.rank w + 1) (earlier_at new) (later_at new) xs) (sym l.shifts) now;
        calm = omega (arith, ap length l.shifts, ap length l.weak, b.calm);
      },
    )

-- whoever the search reaches stands no earlier than the root
reached-behind : (s : Search) (root x : ℕ) → Forward s root x → s.rank root ≤ s.rank x
reached-behind s root x at_root = omega arith
reached-behind s root x (further y z r o a l) = let k : s.rank root ≤ s.rank y = reached-behind s root y r in omega (arith, k, l)

-- Once others have left, the first of those that wait is not the root, so few are ahead of it. Where it has no candidate before it, it leaves
-- the queue, and the search is between two turns again.
pub pass-later : (s : Search) (root w : ℕ) (old new : Rising) → Widened s root → IsOrderly old → old.turn < length old.queue.items
    → get_or old.queue.items old.turn 0 ≡ w
    → LeavesQueue w (record { earlier = 0; later = 0; turn = 0; is_candidate = false; is_weak = false }) old new → 0 < old.turn
    → earlier_at old w ≡ 0 → IsBetweenTurns s root old → IsBetweenTurns s root new
pass-later s root w old new c o lt first l some none (f, b) =
    let mark : Mark = record { earlier = 0; later = 0; turn = 0; is_candidate = false; is_weak = false } in
    let waits : member w (waiting old) ≡ true = ap (member w) (waiting-next w mark old new l lt first) ∙ member-head w (waiting new) in
    let open' : f ≤ s.rank w = b.turns.searching.queue_open w waits in
    let level : OnLevel s w = b.turns.searching.queue_level w waits in
    let any : 0 < length (left old) = omega (arith, some, lt, length-take old.turn old.queue.items) in
    let y : ℕ = get_or (left old) 0 0 in
    let gone : member y (left old) ≡ true = member-get_or (left old) 0 0 any in
    let from : s.rank root ≤ s.rank y = reached-behind s root y (b.lined.reached y (left-queued old y gone)) in
    let before : s.rank y < f = b.lined.passed y gone in
    let other : w ≢ root = λ e. let k : s.rank w ≡ s.rank root = ap s.rank e in absurd (omega (arith, k, from, before, open')) in
    pass-between s root w old new c o lt first l (omega (arith, ahead-later s root c w level, c.few w level.here other, level.level)) none (f, b)
