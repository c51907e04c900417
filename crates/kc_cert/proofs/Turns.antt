-- Shifts in turn, one after the other.
use Rattle.std.proofs.Common.{◌≡◌, ◌≤◌, ◌<◌, ◌+◌, ℕ, suc, zero, true, false, cond, List, [], ◌∷◌, ◌++◌, Option, Some, None, length, get_or, take}
use Rattle.std.proofs.Common.{drop, refl, sym, ◌∙◌, ap, subst, inl, inr, arith, true≢false}
use Rattle.std.specs.Prelude.{⊤, MatchOption}
use Rattle.std.proofs.lemmas.Bool.{cases_Bool, cases_eq, cases_lt, false≢true, false_from_ne_true}
use Rattle.std.proofs.lemmas.List.{take_more}
use Rattle.kc_lists.specs.Lists.{member, Distinct, place_of}
use Rattle.kc_lists.proofs.Members.{member-head, member-tail, member-cases, member-append, not_member-append, not_member-parts, place_of-first}
use Rattle.kc_lists.proofs.Members.{place_of-next}
use Rattle.kc_lists.proofs.Counting.{member-other, drop-member}
use Rattle.kc_graph.specs.Lawful.{Ranked}
use Rattle.kc_cert.specs.Local.{firsts, seconds, AreInTurn, IsOfLevel}
use Rattle.kc_cert.specs.Shifting.{place_in}
use Rattle.kc_cert.proofs.Ordered.{rank-here}
use Rattle.kc_lists.proofs.Shared.{Distinct-back}

-- the vertices of some shifts and then of more
pub firsts-append : (xs ys : List (ℕ × ℕ)) → firsts (xs ++ ys) ≡ firsts xs ++ firsts ys
firsts-append [] ys = refl
firsts-append (x ∷ xs) ys = ap (λ (zs : List ℕ). x.0 ∷ zs) (firsts-append xs ys)

-- a list of pairs has as many firsts as pairs
pub length-firsts : (xs : List (ℕ × ℕ)) → length (firsts xs) ≡ length xs
length-firsts [] = refl
length-firsts (x ∷ xs) = ap suc (length-firsts xs)

-- one shift more brings its vertex behind those moved before
pub firsts-more : (shifts : List (ℕ × ℕ)) (i : ℕ) → i < length shifts → firsts (take (i + 1) shifts) ≡ firsts (take i shifts) ++ (get_or shifts i (0, 0)).0 ∷ []
firsts-more shifts i l = ap firsts (take_more shifts i (0, 0) l) ∙ firsts-append (take i shifts) (get_or shifts i (0, 0) ∷ [])

-- the vertices of later shifts are the later ones of the vertices
firsts-drop : (k : ℕ) (shifts : List (ℕ × ℕ)) → firsts (drop k shifts) ≡ drop k (firsts shifts)
firsts-drop zero shifts = refl
firsts-drop (suc k) [] = refl
firsts-drop (suc k) (shift ∷ shifts) = firsts-drop k shifts

-- a member of the first of two lists has its place there in both together
place_of-left : (w : ℕ) (xs ys : List ℕ) → member w xs ≡ true → place_of w (xs ++ ys) ≡ place_of w xs
place_of-left w [] ys m = absurd (false≢true m)
place_of-left w (x ∷ xs) ys m = elim (cases_eq w x) [
  | inl e ↦ place_of-first w x (xs ++ ys) e ∙ sym (place_of-first w x xs e)
  | inr ne ↦ place_of-next w x (xs ++ ys) ne ∙ (ap suc (place_of-left w xs ys (member-other w x xs ne m)) ∙ sym (place_of-next w x xs ne))
]

-- a number that is not in the first of two lists comes with its place in the second behind that
place_of-right : (w : ℕ) (xs ys : List ℕ) → member w xs ≡ false → place_of w (xs ++ ys) ≡ length xs + place_of w ys
place_of-right w [] ys n = omega arith
place_of-right w (x ∷ xs) ys n =
    let p = not_member-parts w x xs n in
    omega (arith, place_of-next w x (xs ++ ys) p.0, place_of-right w xs ys p.1)

-- a number that stands before a place is not behind it
earlier-dropped : (k w : ℕ) (xs : List ℕ) → Distinct xs → place_of w xs < k → member w (drop k xs) ≡ false
earlier-dropped zero w xs d l = absurd (omega arith)
earlier-dropped (suc k) w [] d l = refl
earlier-dropped (suc k) w (x ∷ xs) d l = elim (cases_eq w x) [
  | inl e ↦ false_from_ne_true _ (λ m. true≢false (sym (drop-member k w xs m) ∙ (ap (λ n. member n xs) e ∙ d.0)))
  | inr ne ↦ earlier-dropped k w xs d.1 (omega (arith, place_of-next w x xs ne))
]

-- a member that doesn't stand before a place is behind it
not_dropped : (k w : ℕ) (xs : List ℕ) → member w xs ≡ true → k ≤ place_of w xs → member w (drop k xs) ≡ true
not_dropped zero w xs m l = m
not_dropped (suc k) w [] m l = absurd (false≢true m)
not_dropped (suc k) w (x ∷ xs) m l = elim (cases_eq w x) [
  | inl e ↦ absurd (omega (arith, place_of-first w x xs e))
  | inr ne ↦ not_dropped k w xs (member-other w x xs ne m) (omega (arith, place_of-next w x xs ne))
]

-- no place is found for a number that is not there
place_in-out : (xs : List ℕ) (w : ℕ) → member w xs ≡ false → place_in xs w ≡ None
place_in-out xs w n = ap (λ b. cond b (Some (place_of w xs)) None) n

-- the place found for a member is its place
place_in-there : (xs : List ℕ) (w : ℕ) → member w xs ≡ true → place_in xs w ≡ Some (place_of w xs)
place_in-there xs w m = ap (λ b. cond b (Some (place_of w xs)) None) m

-- a place in `front` and then `back` is that of one of the first `k` of `back`, or there is none
abbrev pub StaysFrom : ℕ → ℕ → Option ℕ → Type 0
StaysFrom n k place = MatchOption place ⊤ (λ p. (n ≤ p) × (p < n + k))

-- a number with such a place, or with none, is neither in `front` nor behind the first `k` of `back`
pub stays-to : (front back : List ℕ) (w k : ℕ) → Distinct (front ++ back) → StaysFrom (length front) k (place_in (front ++ back) w)
    → (member w front ≡ false) × (member w (drop k back) ≡ false)
stays-to front back w k d h = elim (cases_Bool (member w (front ++ back))) [
  | inl m ↦
      let at = subst (StaysFrom (length front) k) (place_in-there (front ++ back) w m) h in
      let out : member w front ≡ false =
      false_from_ne_true (member w front) (λ f. absurd (omega (arith, at.0, place_of-left w front back f, (rank-here w front f).0))) in
      (out, earlier-dropped k w back (Distinct-back front back d) (omega (arith, at.1, place_of-right w front back out)))
  | inr n ↦
      let p = not_member-append w front back n in
      (p.0, false_from_ne_true _ (λ m. true≢false (sym (drop-member k w back m) ∙ p.1)))
]

-- a number that is neither in `front` nor behind the first `k` of `back` has such a place, or none
pub stays-from : (front back : List ℕ) (w k : ℕ) → member w front ≡ false → member w (drop k back) ≡ false
    → StaysFrom (length front) k (place_in (front ++ back) w)
stays-from front back w k out gone = elim (cases_Bool (member w (front ++ back))) [
  | inl m ↦
      let there : member w back ≡ true = elim (member-append w front back m) [ inl f ↦ absurd (true≢false (sym f ∙ out)) | inr b ↦ b ] in
      let at : place_of w (front ++ back) ≡ length front + place_of w back = place_of-right w front back out in
      subst (StaysFrom (length front) k) (sym (place_in-there (front ++ back) w m)) (
        omega (arith, at),
        elim (cases_lt (place_of w back) k) [ inl l ↦ omega (arith, at) | inr l ↦ absurd (true≢false (sym (not_dropped k w back there l) ∙ gone)) ],
      )
  | inr n ↦ subst (StaysFrom (length front) k) (sym (place_in-out (front ++ back) w n)) tt
]

-- one shift is right
pub record IsPutRight (s : Ranked) (level : ℕ) (rise : List ℕ) (shifts : List (ℕ × ℕ)) (k : ℕ) : Type 0 where
  pub of_level : IsOfLevel s level (get_or shifts k (0, 0)).1
  pub stays : member (get_or shifts k (0, 0)).1 rise ≡ false
  pub in_turn : member (get_or shifts k (0, 0)).1 (firsts (drop k shifts)) ≡ false

-- all shifts are right
abbrev pub ArePutRight : Ranked → ℕ → List ℕ → List (ℕ × ℕ) → Type 0
ArePutRight s level rise shifts = ((w : ℕ) → member w (seconds shifts) ≡ true → IsOfLevel s level w × (member w rise ≡ false)) × AreInTurn shifts

-- the vertex after which a shift puts another is one of those of all shifts
pub seconds-at : (shifts : List (ℕ × ℕ)) (k : ℕ) → k < length shifts → member (get_or shifts k (0, 0)).1 (seconds shifts) ≡ true
seconds-at [] k l = absurd (omega arith)
seconds-at (shift ∷ shifts) zero l = member-head shift.1 (seconds shifts)
seconds-at (shift ∷ shifts) (suc k) l = member-tail (get_or shifts k (0, 0)).1 shift.1 (seconds shifts) (seconds-at shifts k (omega arith))

-- where shifts come in turn, none is put after a vertex that it or a later one moves
turn-at : (shifts : List (ℕ × ℕ)) (k : ℕ) → k < length shifts → AreInTurn shifts → member (get_or shifts k (0, 0)).1 (firsts (drop k shifts)) ≡ false
turn-at [] k l t = absurd (omega arith)
turn-at (shift ∷ shifts) zero l t = t.0
turn-at (shift ∷ shifts) (suc k) l t = turn-at shifts k (omega arith) t.1

-- where all shifts are right, each is
pub put_right-at : (s : Ranked) (level : ℕ) (rise : List ℕ) (shifts : List (ℕ × ℕ)) (k : ℕ) → k < length shifts
    → ArePutRight s level rise shifts → IsPutRight s level rise shifts k
put_right-at s level rise shifts k l h =
    let w = h.0 (get_or shifts k (0, 0)).1 (seconds-at shifts k l) in
    record { of_level = w.0; stays = w.1; in_turn = turn-at shifts k l h.1 }

-- where each shift is right, all are
pub put_right-all : (s : Ranked) (level : ℕ) (rise : List ℕ) (shifts : List (ℕ × ℕ))
    → ((k : ℕ) → k < length shifts → IsPutRight s level rise shifts k) → ArePutRight s level rise shifts
put_right-all s level rise [] h = (λ w m. absurd (false≢true m), tt)
put_right-all s level rise (shift ∷ shifts) h =
    let first = h 0 (omega arith) in
    let rest = put_right-all s level rise shifts (λ k l. let r =
    h (suc k) (omega arith) in record { of_level = r.of_level; stays = r.stays; in_turn = r.in_turn }) in (
      λ w m. elim (member-cases w shift.1 (seconds shifts) m) [
        | inl e ↦ (subst (IsOfLevel s level) (sym e) first.of_level, ap (λ n. member n rise) e ∙ first.stays)
        | inr k ↦ rest.0 w k
      ],
      (first.in_turn, rest.1),
    )

-- what the places say of one shift
pub put_right-to : (s : Ranked) (level : ℕ) (rise : List ℕ) (shifts : List (ℕ × ℕ)) (k : ℕ) → Distinct (rise ++ firsts shifts)
    → IsOfLevel s level (get_or shifts k (0, 0)).1
    → StaysFrom (length rise) k (place_in (rise ++ firsts shifts) (get_or shifts k (0, 0)).1) → IsPutRight s level rise shifts k
put_right-to s level rise shifts k d here stays =
    let w : ℕ = (get_or shifts k (0, 0)).1 in
    let p = stays-to rise (firsts shifts) w k d stays in
    record { of_level = here; stays = p.0; in_turn = ap (member w) (firsts-drop k shifts) ∙ p.1 }

-- where a shift is right, the place of the vertex after which it puts is of an earlier shift, or none
pub put_right-from : (s : Ranked) (level : ℕ) (rise : List ℕ) (shifts : List (ℕ × ℕ)) (k : ℕ) → IsPutRight s level rise shifts k
    → StaysFrom (length rise) k (place_in (rise ++ firsts shifts) (get_or shifts k (0, 0)).1)
put_right-from s level rise shifts k h =
    let w : ℕ = (get_or shifts k (0, 0)).1 in
    stays-from rise (firsts shifts) w k h.stays (sym (ap (member w) (firsts-drop k shifts)) ∙ h.in_turn)
