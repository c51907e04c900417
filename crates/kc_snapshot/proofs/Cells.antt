-- The cells of a book: which are at home, and what they are with a pen more or a list more.
use Rattle.std.proofs.Common.{◌≡◌, ℕ, ◌+◌, ◌<◌, zero, suc, true, false, List, [], ◌∷◌, ◌++◌, length, refl, ap, sym, ◌∙◌, arith, append_assoc}
use Rattle.std.proofs.Common.{length-append, set}
use Rattle.std.specs.Prelude.{replicate}
use Rattle.std.proofs.lemmas.List.{get_or-replicate, get_or_append_left, length-replicate, replicate_more, set_at}
use Rattle.logbook.specs.Pages.{Cell, cell, nib, may_write, right_number, number_back, numbered, Nib}
use Rattle.kc_snapshot.specs.Rules.{behind_head, cells_of}

-- a cell with the value 0 that is at home
abbrev pub home : Cell
home = (0, true)

-- a cell with the value 0 that a pen is to write
abbrev pub away : Cell
away = (0, false)

-- how many cells stand behind the head
pub length-behind : (n p : ℕ) → length (behind_head n p) ≡ n + p + 1
length-behind n p =
    omega (arith, length-append (replicate (n + 1) home) (replicate p away), length-replicate (n + 1) home, length-replicate p away)

-- how many cells there are
pub length-cells : (n p : ℕ) → length (cells_of n p) ≡ n + p + 2
length-cells n p = omega (arith, length-behind n p)

-- the head, the unused cell and each member's cell are at home
pub home-cell : (n p k : ℕ) → k < n + 2 → (cell (cells_of n p) k).1 ≡ true
home-cell n p zero l = refl
home-cell n p (suc k) l =
    let R : List Cell = replicate (n + 1) home in
    let S : List Cell = replicate p away in
    let long = length-replicate (n + 1) home in
    ap (λ (c : Cell). c.1) (get_or_append_left R S away k (omega (arith, long)) ∙ get_or-replicate (n + 1) k home away (omega arith))

-- a cell that a pen is to write more
pub one_away : (n p h : ℕ) → ((h, true) ∷ behind_head n p) ++ away ∷ [] ≡ (h, true) ∷ behind_head n (p + 1)
one_away n p h =
    let R : List Cell = replicate (n + 1) home in
    let S : List Cell = replicate p away in
    ap (λ (cs : List Cell). (h, true) ∷ cs) (append_assoc R S (away ∷ []) ∙ ap (λ (cs : List Cell). R ++ cs) (replicate_more p away))

-- the first of two such cells comes home, as one more list's
pub one_home : (n h : ℕ) → set ((h, true) ∷ behind_head n 2) (n + 2) home ≡ (h, true) ∷ behind_head (n + 1) 1
one_home n h =
    let R : List Cell = replicate (n + 1) home in
    let long = length-replicate (n + 1) home in
    set_at ((h, true) ∷ R) away (away ∷ []) home (n + 2) (omega (arith, long))
    ∙ ap (λ (cs : List Cell). (h, true) ∷ cs)
    (sym (append_assoc R (home ∷ []) (away ∷ [])) ∙ ap (λ (cs : List Cell). cs ++ away ∷ []) (replicate_more (n + 1) home))

-- a right to write is known by its number
pub nib_is : (n : Nib) (k : ℕ) → right_number n.right ≡ 1 → n.key ≡ k → n.value ≡ 0 → n ≡ nib may_write k 0
nib_is n k right key value =
    let r : n.right ≡ may_write = sym (number_back n.right) ∙ ap numbered right in
    λ i. nib (r i) (key i) (value i)
