-- The steps at a book keep its rule, and tell what they are to tell.
use Rattle.std.proofs.Common.{◌≡◌, ◌==◌, ℕ, ◌+◌, ◌*◌, ◌≤◌, ◌<◌, Bool, true, false, List, [], ◌∷◌, ◌++◌, length, refl, ap, sym, ◌∙◌, subst, arith, inl}
use Rattle.std.proofs.Common.{inr, None, set}
use Rattle.std.proofs.lemmas.List.{append-nil, length_push}
use Rattle.std.proofs.lemmas.Bool.{cases_lt}
use Rattle.std.proofs.lemmas.Bool.Decides.{nat_tests}
use mathlib.Core.List.{IsPrefix}
use prog.Atomic.{either}
use Rattle.logbook.specs.Pages.{Cell, cell, keeps, gives, adds, no_nib, nib, may_make, may_write, step, Moves, Goes, Away}
use Rattle.kc_snapshot.specs.declared.member.Member.{Member}
use Rattle.kc_snapshot.specs.Rules.{AreHistoryCells, behind_head, cells_of, TellsPen, TellsAdded, TellsLength}
use Rattle.kc_snapshot.proofs.Prefixes.{prefix_whole, prefix_length}
use Rattle.kc_snapshot.proofs.Cells.{home, home-cell, length-cells, one_away, one_home}

-- what clients see of a book's log: nothing
abbrev pub shown : List Member → List Member
shown log = []

-- what an update is to do to what clients see: nothing is asked
abbrev pub moved : List Member → List Member → ℕ → Type 0
moved xs ys n = Unit {0}

-- what the head is after an exchange
abbrev pub exchanged : ℕ → ℕ → ℕ → ℕ
exchanged old new n = either (n == old) new n

-- the cells stay where the head does
kept_words : (h pens : ℕ) (log : List Member) → h ≡ 3 * length log + pens → (h, true) ∷ behind_head (length log) pens ≡ cells_of (length (log ++ [])) pens
kept_words h pens log is =
    ap (λ (k : ℕ). (k, true) ∷ behind_head (length log) pens) is ∙ ap (λ (l : List Member). cells_of (length l) pens) (sym (append-nil log))

-- the step that makes a pen: where the head is the one expected
pub pen_goes : (log v : List Member) (e : Member) (m p old : ℕ) → p < 2 → old ≡ 3 * m + p
    → (pens : ℕ) → pens ≤ 2 → (b : Bool) → (3 * length log + pens == old) ≡ b
    → Goes AreHistoryCells shown moved 0 (v, (no_nib, None)) (exchanged old (old + 1)) (TellsPen (step 0 old (old + 1) e) (v, (no_nib, None)))
    (cells_of (length log) pens) log
pen_goes log v e m p old few old_is pens pens_few true is =
    let n : ℕ = length log in
    let here : 3 * n + pens ≡ old = grind (arith, nat_tests) in
    let same : pens ≡ p = omega arith in
    let all : length (log ++ []) ≡ n = ap length (append-nil log) in
    let head : exchanged old (old + 1) (3 * n + pens) ≡ 3 * n + (pens + 1) = rw is (omega arith) in
    let words = ap (λ (k : ℕ). ((k, true) ∷ behind_head n pens) ++ (0, false) ∷ []) head ∙ one_away n pens (3 * n + (pens + 1))
    ∙ ap (λ (k : ℕ). cells_of k (pens + 1)) (sym all) in (
      adds,
      [],
      None,
      tt,
      record { pens = pens + 1; few = omega arith; words = words },
      inl (refl, refl),
      rw is (n, pens, omega arith, sym here, ap (λ (k : ℕ). nib may_make k 0) (length-cells n pens)),
    )
pen_goes log v e m p old few old_is pens pens_few false is =
    let head : exchanged old (old + 1) (3 * length log + pens) ≡ 3 * length log + pens = rw is refl in (
      keeps,
      [],
      None,
      tt,
      record { pens = pens; few = pens_few; words = kept_words _ pens log head },
      inl (refl, refl),
      rw is tt,
    )

-- whatever the book is, the step makes a pen where the head is the one expected
pub pen_moves : (v : List Member) (e : Member) (m p old : ℕ) → p < 2 → old ≡ 3 * m + p
    → Moves AreHistoryCells shown moved 0 (v, (no_nib, None)) (exchanged old (old + 1)) (TellsPen (step 0 old (old + 1) e) (v, (no_nib, None)))
pen_moves v e m p old few old_is cs log kept pre away =
    let P : List Cell → Type 0 =
    λ c.
    (0 < length c) × ((cell c 0).1 ≡ true)
    × Goes AreHistoryCells shown moved 0 (v, (no_nib, None)) (exchanged old (old + 1))
    (TellsPen (step 0 old (old + 1) e) (v, (no_nib, None))) c log in
    subst P (sym kept.words) (omega arith, refl, pen_goes log v e m p old few old_is kept.pens kept.few (3 * length log + kept.pens == old) refl)

-- a cell that is not at home stands behind all lists
pub cell-behind_lists : (n pens k : ℕ) → (cell (cells_of n pens) k).1 ≡ false → n + 2 ≤ k
cell-behind_lists n pens k is = elim (cases_lt k (n + 2)) [ inl l ↦ absurd (cc (is, home-cell n pens k l)) | inr le ↦ le ]

-- the step that adds a list: who has the pen has seen the whole history
pub list_goes : (log v : List Member) (e : Member) (k old : ℕ) → k ≡ length v + 2 → old ≡ 3 * length v + 2 → IsPrefix v log
    → (pens : ℕ) → pens ≤ 2 → (cell (cells_of (length log) pens) k).1 ≡ false → (b : Bool) → (3 * length log + pens == old) ≡ b
    → Goes AreHistoryCells shown moved 0 (v, (nib may_write k 0, None)) (exchanged old (old + 2))
    (TellsAdded (step 0 old (old + 2) e) (v, (nib may_write k 0, None))) (cells_of (length log) pens) log
list_goes log v e k old k_is old_is pre pens few out true is =
    let n : ℕ = length log in
    let here : 3 * n + pens ≡ old = grind (arith, nat_tests) in
    let le : n + 2 ≤ k = cell-behind_lists n pens k out in
    let same : v ≡ log = prefix_whole v log pre (omega arith) in
    let long : length v ≡ n = ap length same in
    let two : pens ≡ 2 = omega arith in
    let at : k ≡ n + 2 = omega arith in
    let head : exchanged old (old + 2) (3 * n + pens) ≡ 3 * (n + 1) + 1 = rw is (omega arith) in
    let words =
    ap (λ (q : ℕ). set ((exchanged old (old + 2) (3 * n + pens), true) ∷ behind_head n q) k home) two
    ∙ ap (λ (j : ℕ). set ((exchanged old (old + 2) (3 * n + pens), true) ∷ behind_head n 2) j home) at
    ∙ one_home n (exchanged old (old + 2) (3 * n + pens))
    ∙ ap (λ (x : ℕ). (x, true) ∷ behind_head (n + 1) 1) head
    ∙ ap (λ (l : ℕ). cells_of l 1) (sym (length_push log e)) in (
      gives,
      e ∷ [],
      None,
      refl,
      record { pens = 1; few = omega arith; words = words },
      inl (refl, refl),
      rw is (ap (λ (w : List Member). w ++ e ∷ []) (sym same)),
    )
list_goes log v e k old k_is old_is pre pens few out false is =
    let le : length log + 2 ≤ k = cell-behind_lists (length log) pens k out in
    let same : v ≡ log = prefix_whole v log pre (omega arith) in
    let head : exchanged old (old + 2) (3 * length log + pens) ≡ 3 * length log + pens = rw is refl in (
      keeps,
      [],
      None,
      tt,
      record { pens = pens; few = few; words = kept_words _ pens log head },
      inl (refl, refl),
      rw is (append-nil log ∙ sym same, refl),
    )

-- whatever the book is, the step adds the list or changes nothing
pub list_moves : (v : List Member) (e : Member) (k old : ℕ) → k ≡ length v + 2 → old ≡ 3 * length v + 2
    → Moves AreHistoryCells shown moved 0 (v, (nib may_write k 0, None)) (exchanged old (old + 2)) (TellsAdded (step 0 old (old + 2) e) (
      v,
      (nib may_write k 0, None),
    ))
list_moves v e k old k_is old_is cs log kept pre away =
    let P : List Cell → Type 0 =
    λ c.
    Away (nib may_write k 0) c
    → (0 < length c) × ((cell c 0).1 ≡ true)
    × Goes AreHistoryCells shown moved 0 (v, (nib may_write k 0, None)) (exchanged old (old + 2))
    (TellsAdded (step 0 old (old + 2) e) (v, (nib may_write k 0, None))) c log in
    subst P (sym kept.words)
    (λ out. (
      omega arith,
      refl,
      list_goes log v e k old k_is old_is pre kept.pens kept.few (out refl).1 (3 * length log + kept.pens == old) refl,
    ))
    away

-- 0 for 0 changes no head
pub same_head : (h : ℕ) (b : Bool) → (h == 0) ≡ b → exchanged 0 0 h ≡ h
same_head h true is = rw is (let zero_is : h ≡ 0 = grind (arith, nat_tests) in sym zero_is)
same_head h false is = rw is refl

-- the step that looks how long the history is, where all that was seen has the pen's own part in it
pub length_goes : (log v : List Member) (e : Member) (k : ℕ) → k ≤ length v + 2 → IsPrefix v log
    → (pens : ℕ) → pens ≤ 2 → (cell (cells_of (length log) pens) k).1 ≡ false
    → Goes AreHistoryCells shown moved 0 (v, (nib may_write k 0, None)) (exchanged 0 0) (TellsLength (step 0 0 0 e) (v, (nib may_write k 0, None)))
    (cells_of (length log) pens) log
length_goes log v e k k_le pre pens few out =
    let le : length log + 2 ≤ k = cell-behind_lists (length log) pens k out in
    let short : length v ≤ length log = prefix_length v log pre in
    let all : length (log ++ []) ≡ length log = ap length (append-nil log) in
    let head = same_head (3 * length log + pens) (3 * length log + pens == 0) refl in (
      keeps,
      [],
      None,
      tt,
      record { pens = pens; few = few; words = kept_words _ pens log head },
      inl (refl, refl),
      (omega arith, refl),
    )

-- whatever the book is, it has no more lists than the pen says
pub length_moves : (v : List Member) (e : Member) (k : ℕ) → k ≤ length v + 2
    → Moves AreHistoryCells shown moved 0 (v, (nib may_write k 0, None)) (exchanged 0 0) (TellsLength (step 0 0 0 e) (v, (nib may_write k 0, None)))
length_moves v e k k_le cs log kept pre away =
    let P : List Cell → Type 0 =
    λ c.
    Away (nib may_write k 0) c
    → (0 < length c) × ((cell c 0).1 ≡ true)
    × Goes AreHistoryCells shown moved 0 (v, (nib may_write k 0, None)) (exchanged 0 0)
    (TellsLength (step 0 0 0 e) (v, (nib may_write k 0, None))) c log in
    subst P (sym kept.words) (λ out. (omega arith, refl, length_goes log v e k k_le pre kept.pens kept.few (out refl).1)) away
