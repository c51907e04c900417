-- Histories: all their lists are of the same vertices, and the last one is the one that was added last.
use Rattle.std.proofs.Common.{◌≡◌, ℕ, ◌+◌, ◌-◌, ◌<◌, zero, suc, true, List, [], ◌∷◌, ◌++◌, length, refl, ap, sym, ◌∙◌, arith, get_or, set, drop, take}
use Rattle.std.proofs.Common.{append_assoc}
use Rattle.std.proofs.lemmas.List.{length-set, length-take-le, get_or_push, length_push, drop_more, take_more, set_at}
use Rattle.std.proofs.lemmas.Bool.Decides.{nat_tests}
use mathlib.Core.List.{IsPrefix}
use Rattle.kc_snapshot.specs.declared.member.Member.{Member}
use Rattle.kc_snapshot.specs.declared.listing.Place.{Place}
use Rattle.kc_snapshot.specs.Histories.{member, list_at, last_list, width, all_wide, is_history, changed}
use Rattle.kc_snapshot.proofs.Prefixes.{prefix_get}

-- a change keeps the number of vertices
pub length_changed : (core : List ℕ) (places : List Place) → length (changed core places) ≡ length core
length_changed core [] = refl
length_changed core (p ∷ ps) = length_changed (set core p.at p.core) ps ∙ length-set core p.at p.core

-- one place more
pub changed-push : (core : List ℕ) (places : List Place) (p : Place) → changed core (places ++ p ∷ []) ≡ set (changed core places) p.at p.core
changed-push core [] p = refl
changed-push core (q ∷ qs) p = changed-push (set core q.at q.core) qs p

-- a list of the same vertices more
pub all_wide-push : (n : ℕ) (ms : List Member) (m : Member) → all_wide n ms ≡ true → length m.core ≡ n → all_wide n (ms ++ m ∷ []) ≡ true
all_wide-push n [] m all is = grind (arith, nat_tests)
all_wide-push n (k ∷ ks) m all is = let rest = all_wide-push n ks m (grind (arith, nat_tests)) is in grind (arith, nat_tests)

-- a history with one list of its vertices more is a history
pub is_history_push : (ms : List Member) (core : List ℕ) → is_history ms ≡ true → length core ≡ width ms → is_history (ms ++ member core ∷ []) ≡ true
is_history_push [] core is wide = absurd (cc is)
is_history_push (m ∷ ms) core is wide = all_wide-push (length m.core) ms (member core) is wide

-- a history has a list
pub is_history-some : (ms : List Member) → is_history ms ≡ true → 0 < length ms
is_history-some [] is = absurd (cc is)
is_history-some (m ∷ ms) is = omega arith

-- each list of lists of n vertices has n
all_wide-at : (n : ℕ) (ms : List Member) (k : ℕ) → all_wide n ms ≡ true → k < length ms → length (list_at ms k) ≡ n
all_wide-at n [] k all l = absurd (omega arith)
all_wide-at n (m ∷ ms) zero all l = grind (arith, nat_tests)
all_wide-at n (m ∷ ms) (suc k) all l = all_wide-at n ms k (grind (arith, nat_tests)) (omega arith)

-- each list of a history has as many vertices as the first
pub is_history-at : (ms : List Member) (k : ℕ) → is_history ms ≡ true → k < length ms → length (list_at ms k) ≡ width ms
is_history-at [] k is l = absurd (omega arith)
is_history-at (m ∷ ms) zero is l = refl
is_history-at (m ∷ ms) (suc k) is l = all_wide-at (length m.core) ms k is (omega arith)

-- the last list of a history has as many vertices as the first
pub last_list-wide : (ms : List Member) → is_history ms ≡ true → length (last_list ms) ≡ width ms
last_list-wide ms is = let some = is_history-some ms is in is_history-at ms (length ms - 1) is (omega arith)

-- the list that was added is the last
pub last_list-push : (ms : List Member) (core : List ℕ) → last_list (ms ++ member core ∷ []) ≡ core
last_list-push ms core =
    let n : length (ms ++ member core ∷ []) - 1 ≡ length ms = omega (arith, length_push ms (member core)) in
    ap (λ k. list_at (ms ++ member core ∷ []) k) n ∙ ap (λ (m : Member). m.core) (get_or_push ms (member core) (member []) (length ms) refl)

-- a longer history is of the same vertices
pub width-prefix : (ms ns : List Member) → IsPrefix ms ns → 0 < length ms → width ms ≡ width ns
width-prefix ms ns p some = ap (λ (m : Member). length m.core) (prefix_get ms ns 0 (member []) p some)

-- the new list up to a vertex, and then the old one
abbrev pub half_way : List ℕ → List ℕ → ℕ → List ℕ
half_way old new at = take at new ++ drop at old

-- the new list's number at the vertex, behind what is new already
half_way-next : (old new : List ℕ) (at : ℕ) → at < length new → take at new ++ get_or new at 0 ∷ drop (at + 1) old ≡ half_way old new (at + 1)
half_way-next old new at l =
    sym (append_assoc (take at new) (get_or new at 0 ∷ []) (drop (at + 1) old)) ∙ ap (λ (xs : List ℕ). xs ++ drop (at + 1) old) (sym (take_more new at 0 l))

-- one vertex more is written
pub half_way-set : (old new : List ℕ) (at : ℕ) → length old ≡ length new → at < length new
    → set (half_way old new at) at (get_or new at 0) ≡ half_way old new (at + 1)
half_way-set old new at same l =
    ap (λ (xs : List ℕ). set (take at new ++ xs) at (get_or new at 0)) (drop_more old at 0 (omega arith))
    ∙ set_at (take at new) (get_or old at 0) (drop (at + 1) old) (get_or new at 0) at (length-take-le at new (omega arith))
    ∙ half_way-next old new at l

-- one vertex more has its new number already
pub half_way-same : (old new : List ℕ) (at : ℕ) → length old ≡ length new → at < length new → get_or old at 0 ≡ get_or new at 0
    → half_way old new at ≡ half_way old new (at + 1)
half_way-same old new at same l eq =
    ap (λ (xs : List ℕ). take at new ++ xs) (drop_more old at 0 (omega arith) ∙ ap (λ (x : ℕ). x ∷ drop (at + 1) old) eq) ∙ half_way-next old new at l

-- what is put into what is empty stands there alone
pub only_one : {A : Type 0} (xs ys : List A) (x : A) → length xs ≡ 0 → ys ≡ xs ++ x ∷ [] → ys ≡ x ∷ []
only_one [] ys x none is = is
only_one (z ∷ zs) ys x none is = absurd (omega arith)
