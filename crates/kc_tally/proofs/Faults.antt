-- Lists without a fault.
use Rattle.std.proofs.Common.{◌≡◌, ◌≢◌, ◌≤◌, ◌<◌, ◌+◌, ℕ, suc, zero, Bool, true, false, cond, ◌&&◌, List, [], ◌∷◌, ◌++◌, length, get_or, eqb, ltb, refl}
use Rattle.std.proofs.Common.{sym, ◌∙◌, ap, ◌⊎◌, inl, inr, arith, Option, None, Some, ltb-true, lt-ltb, eqb-true, eq-eqb, ne_eqb}
use Rattle.std.specs.Prelude.{⊤, All, AllPairs}
use Rattle.std.proofs.lemmas.Bool.{cases_lt, cases_order, or_cases, or_left, or_right, and_parts, and_from, not-true, true≢false}
use Rattle.std.proofs.lemmas.List.Elements.{All-append}
use Rattle.kc_graph.specs.Bulk.{is_within}
use Rattle.kc_graph.specs.declared.bulk.Edge.{Edge}
use Rattle.kc_tally.specs.declared.fault.EdgeFault.{EdgeFault}
use Rattle.kc_tally.specs.declared.fault.EdgeFault.TheVariants.{NotAVertex, Loop, GreaterFirst, NotAbove}
use Rattle.kc_tally.specs.declared.fault.FirstFault.{FirstFault}
use Rattle.kc_tally.specs.Lists.{ListsEachOnce, is_above, fault_after, refused_at, first_fault, last_edge, is_up_to, edges_of_pieces, AreDisjoint}

-- an edge without a fault
abbrev IsRight : ℕ → Option Edge → Edge → Type 0
IsRight n before e = (e.u < e.v) × (e.v < n) × (is_above before e ≡ true)

-- all edges of a list are without a fault
abbrev AreRight : ℕ → Option Edge → List Edge → Type 0
AreRight n before [] = ⊤
AreRight n before (e ∷ es) = IsRight n before e × AreRight n (Some e) es

-- the tests that let an edge through
let_through : (a b c d : Bool) → cond a (cond b (Some Loop) (cond c (cond d None (Some NotAbove)) (Some GreaterFirst))) (Some NotAVertex) ≡ None
    → (a ≡ true) × (c ≡ true) × (d ≡ true)
let_through false b c d h = absurd (cc h)
let_through true true c d h = absurd (cc h)
let_through true false false d h = absurd (cc h)
let_through true false true false h = absurd (cc h)
let_through true false true true h = (refl, refl, refl)

-- an edge in which no fault is found is right
fault-none : (n : ℕ) (before : Option Edge) (e : Edge) → fault_after n before e ≡ None → IsRight n before e
fault-none n before e h =
    let t = let_through (is_within n e) (eqb e.u e.v) (ltb e.u e.v) (is_above before e) h in
    (ltb-true e.u e.v t.1, ltb-true e.v n (and_parts (ltb e.u n) (ltb e.v n) t.0).1, t.2)

-- in an edge that is right no fault is found
none-fault : (n : ℕ) (before : Option Edge) (e : Edge) → IsRight n before e → fault_after n before e ≡ None
none-fault n before e h =
    let within : is_within n e ≡ true = and_from (ltb e.u n) (ltb e.v n) (lt-ltb e.u n (omega (arith, h.0, h.1))) (lt-ltb e.v n h.1) in
    let differ : eqb e.u e.v ≡ false = ne_eqb e.u e.v (λ s. absurd (omega (arith, h.0))) in
    rw (within, differ, lt-ltb e.u e.v h.0, h.2) refl

-- the last test counts only where the one before it is passed
tested_last : (a b c d d' : Bool) → (c ≡ true → d ≡ d')
    → cond a (cond b (Some Loop) (cond c (cond d None (Some NotAbove)) (Some GreaterFirst))) (Some NotAVertex)
    ≡ cond a (cond b (Some Loop) (cond c (cond d' None (Some NotAbove)) (Some GreaterFirst))) (Some NotAVertex)
tested_last a b true d d' h = ap (λ x. cond a (cond b (Some Loop) (cond x None (Some NotAbove))) (Some NotAVertex)) (h refl)
tested_last a b false d d' h = refl

-- an edge with its lesser end first is above (0, 0)
above-origin : (e : Edge) → e.u < e.v → is_above (Some (record { u = 0; v = 0 })) e ≡ true
above-origin e l = elim (cases_lt 0 e.u) [
  | inl p ↦ or_left (ltb 0 e.u) (eqb 0 e.u && ltb 0 e.v) (lt-ltb 0 e.u p)
  | inr p ↦ or_right (ltb 0 e.u) _ (and_from (eqb 0 e.u) (ltb 0 e.v) (eq-eqb 0 e.u (omega arith)) (lt-ltb 0 e.v (omega arith)))
]

-- a list that begins anywhere is a list that goes on after (0, 0)
pub origin-first : (n : ℕ) (es : List Edge) → first_fault n 0 (Some (record { u = 0; v = 0 })) es ≡ first_fault n 0 None es
origin-first n [] = refl
origin-first n (e ∷ es) =
    ap (λ f. refused_at 0 f (first_fault n 1 (Some e) es))
    (tested_last (is_within n e) (eqb e.u e.v) (ltb e.u e.v) (is_above (Some (record { u = 0; v = 0 })) e) true
    (λ h. above-origin e (ltb-true e.u e.v h)))

-- a place that is no fault's leads on
refused-none : (place : ℕ) (fault : Option EdgeFault) (rest : Option FirstFault) → refused_at place fault rest ≡ None → (fault ≡ None) × (rest ≡ None)
refused-none place None rest h = (refl, h)
refused-none place (Some fault) rest h = absurd (cc h)

-- a list in which no fault is found is right
right-from_none : (n place : ℕ) (before : Option Edge) (es : List Edge) → first_fault n place before es ≡ None → AreRight n before es
right-from_none n place before [] h = tt
right-from_none n place before (e ∷ es) h =
    let k = refused-none place (fault_after n before e) (first_fault n (place + 1) (Some e) es) h in
    (fault-none n before e k.0, right-from_none n (place + 1) (Some e) es k.1)

-- in a list that is right no fault is found, wherever it begins
none-from_right : (n place : ℕ) (before : Option Edge) (es : List Edge) → AreRight n before es → first_fault n place before es ≡ None
none-from_right n place before [] h = refl
none-from_right n place before (e ∷ es) h =
    ap (λ f. refused_at place f (first_fault n (place + 1) (Some e) es)) (none-fault n before e h.0) ∙ none-from_right n (place + 1) (Some e) es h.1

-- when an edge is above another
abbrev Above : Edge → Edge → Type 0
Above e f = (e.u < f.u) ⊎ ((e.u ≡ f.u) × (e.v < f.v))

above-true : (e f : Edge) → is_above (Some e) f ≡ true → Above e f
above-true e f h = elim (or_cases (ltb e.u f.u) (eqb e.u f.u && ltb e.v f.v) h) [
  | inl l ↦ inl (ltb-true e.u f.u l)
  | inr k ↦ let p = and_parts (eqb e.u f.u) (ltb e.v f.v) k in inr (eqb-true e.u f.u p.0, ltb-true e.v f.v p.1)
]

above-from : (e f : Edge) → Above e f → is_above (Some e) f ≡ true
above-from e f h = elim h [
  | inl l ↦ or_left (ltb e.u f.u) _ (lt-ltb e.u f.u l)
  | inr p ↦ or_right (ltb e.u f.u) _ (and_from _ _ (eq-eqb e.u f.u p.0) (lt-ltb e.v f.v p.1))
]

above-trans : (e f d : Edge) → Above e f → Above f d → Above e d
above-trans e f d h k = elim h [
  | inl l ↦ elim k [ inl m ↦ inl (omega arith) | inr q ↦ inl (omega (arith, q.0)) ]
  | inr p ↦ elim k [ inl m ↦ inl (omega (arith, p.0)) | inr q ↦ inr (p.0 ∙ q.0, omega (arith, p.1, q.1)) ]
]

-- no edge is above itself
above-differ : (e f : Edge) → Above e f → e ≢ f
above-differ e f h s = elim h [
  | inl l ↦ absurd (omega (arith, ap (λ (x : Edge). x.u) s))
  | inr p ↦ absurd (omega (arith, p.1, ap (λ (x : Edge). x.v) s))
]

-- in a list that is right all are above the edge before it
all_above : (n : ℕ) (e : Edge) (es : List Edge) → AreRight n (Some e) es → All (Above e) es
all_above n e [] h k d l = absurd (omega arith)
all_above n e (f ∷ fs) h zero d l = above-true e f h.0.2
all_above n e (f ∷ fs) h (suc k) d l = above-trans e f (get_or fs k d) (above-true e f h.0.2) (all_above n f fs h.1 k d (omega arith))

-- what holds of the first and of the rest holds of all
All-front : (P : Edge → Type 0) (e : Edge) (es : List Edge) → P e → All P es → All P (e ∷ es)
All-front P e es p h zero d l = p
All-front P e es p h (suc k) d l = h k d (omega arith)

-- and so for two places
pub pairs-front : {X : Type 0} (R : X → X → Type 0) (x : X) (xs : List X) → All (R x) xs → AllPairs R xs → AllPairs R (x ∷ xs)
pairs-front R x xs p h zero zero d lt l = absurd (omega arith)
pairs-front R x xs p h (suc i) zero d lt l = absurd (omega arith)
pairs-front R x xs p h zero (suc j) d lt l = p j d (omega arith)
pairs-front R x xs p h (suc i) (suc j) d lt l = h i j d (omega arith) (omega arith)

-- so it has each edge once
once-right : (n : ℕ) (before : Option Edge) (es : List Edge) → AreRight n before es → ListsEachOnce n es
once-right n before [] h = record {
  lesser_first = λ k d l. absurd (omega arith);
  within = λ k d l. absurd (omega arith);
  once = λ i j d lt l. absurd (omega arith);
}
once-right n before (e ∷ es) h =
    let rest = once-right n (Some e) es h.1 in
    record {
      lesser_first = All-front (λ f. f.u < f.v) e es h.0.0 rest.lesser_first;
      within = All-front (λ f. f.v < n) e es h.0.1 rest.within;
      once = pairs-front (λ d f. d ≢ f) e es (λ k d l. above-differ e (get_or es k d) (all_above n e es h.1 k d l)) rest.once;
    }

-- a list without a fault has each of its edges once
pub once-from_none : (n : ℕ) (before : Option Edge) (es : List Edge) → first_fault n 0 before es ≡ None → ListsEachOnce n es
once-from_none n before es h = once-right n before es (right-from_none n 0 before es h)

-- what is above one that is not below another is above that
above_gate : (gate : Edge) (last : Option Edge) (e : Edge) → is_up_to gate last ≡ true → is_above (Some gate) e ≡ true → is_above last e ≡ true
above_gate gate None e h k = refl
above_gate gate (Some last) e h k =
    above-from last e (above-up gate last e (not-above gate last (not-true (is_above (Some gate) last) h)) (above-true gate e k))
  where
    -- not above is at most
    not-above : (e f : Edge) → is_above (Some e) f ≡ false → (f.u < e.u) ⊎ ((f.u ≡ e.u) × (f.v ≤ e.v))
    not-above e f h = elim (cases_order f.u e.u) [
      | inl s ↦ elim (cases_lt e.v f.v) [
        | inl l ↦ absurd (true≢false (sym (above-from e f (inr (sym s, l))) ∙ h))
        | inr ge ↦ inr (s, ge)
      ]
      | inr o ↦ elim o [ inl l ↦ inl l | inr l ↦ absurd (true≢false (sym (above-from e f (inl l)) ∙ h)) ]
    ]

    above-up : (gate last e : Edge) → (last.u < gate.u) ⊎ ((last.u ≡ gate.u) × (last.v ≤ gate.v)) → Above gate e → Above last e
    above-up gate last e h k = elim h [
      | inl l ↦ elim k [ inl m ↦ inl (omega arith) | inr q ↦ inl (omega (arith, q.0)) ]
      | inr p ↦ elim k [ inl m ↦ inl (omega (arith, p.0)) | inr q ↦ inr (p.0 ∙ q.0, omega (arith, p.1, q.1)) ]
    ]

-- a list that is right after a gate is right after what is not above it
right_after_gate : (n : ℕ) (gate : Edge) (last : Option Edge) (es : List Edge) → is_up_to gate last ≡ true → AreRight n (Some gate) es → AreRight n last es
right_after_gate n gate last [] up h = tt
right_after_gate n gate last (e ∷ es) up h = ((h.0.0, h.0.1, above_gate gate last e up h.0.2), h.1)

-- lists that are right one after the other are right as one
right-append : (n : ℕ) (before : Option Edge) (es fs : List Edge) → AreRight n before es → AreRight n (last_edge before es) fs → AreRight n before (es ++ fs)
right-append n before [] fs h k = k
right-append n before (e ∷ es) fs h k = (h.0, right-append n (Some e) es fs h.1 k)

-- lists without a fault one after the other have none as one
pub faults-append : (n : ℕ) (before : Option Edge) (es fs : List Edge) → first_fault n 0 before es ≡ None → first_fault n 0 (last_edge before es) fs ≡ None
    → first_fault n 0 before (es ++ fs) ≡ None
faults-append n before es fs h k =
    none-from_right n 0 before (es ++ fs)
    (right-append n before es fs (right-from_none n 0 before es h) (right-from_none n 0 (last_edge before es) fs k))

-- and so where the second goes on after a gate that the first does not pass
pub faults-joined : (n : ℕ) (before : Option Edge) (gate : Edge) (es fs : List Edge) → first_fault n 0 before es ≡ None
    → is_up_to gate (last_edge before es) ≡ true → first_fault n 0 (Some gate) fs ≡ None → first_fault n 0 before (es ++ fs) ≡ None
faults-joined n before gate es fs h up k =
    none-from_right n 0 before (es ++ fs)
    (right-append n before es fs (right-from_none n 0 before es h)
    (right_after_gate n gate (last_edge before es) fs up (right-from_none n 0 (Some gate) fs k)))

-- lists that are apart have each edge once as one
once-append : (n : ℕ) (es fs : List Edge) → ListsEachOnce n es → ListsEachOnce n fs → AreDisjoint es fs → ListsEachOnce n (es ++ fs)
once-append n es fs h k apart = record {
  lesser_first = All-append (λ f. f.u < f.v) es fs h.lesser_first k.lesser_first;
  within = All-append (λ f. f.v < n) es fs h.within k.within;
  once = pairs-append es fs h.once k.once apart;
} where
  pairs-append : (es fs : List Edge) → AllPairs (λ d f. d ≢ f) es → AllPairs (λ d f. d ≢ f) fs → AreDisjoint es fs → AllPairs (λ d f. d ≢ f) (es ++ fs)
  pairs-append [] fs h k apart = k
  pairs-append (e ∷ es) fs h k apart =
      pairs-front (λ d f. d ≢ f) e (es ++ fs)
      (All-append (λ f. e ≢ f) es fs (λ i d l. h 0 (suc i) d (omega arith) (omega arith))
      (λ i d l. apart 0 e (omega arith) i d l))
      (pairs-append es fs (λ i j d lt l. h (suc i) (suc j) d (omega arith) (omega arith)) k (λ i d l. apart (suc i) d (omega arith)))

-- one that is apart from each piece is apart from all together
apart-pieces : (es : List Edge) (pieces : List (List Edge)) → All (AreDisjoint es) pieces → AreDisjoint es (edges_of_pieces pieces)
apart-pieces es [] h i d l = λ k e lk. absurd (omega arith)
apart-pieces es (p ∷ pieces) h i d l =
    All-append (λ f. get_or es i d ≢ f) p (edges_of_pieces pieces) (h 0 p (omega arith) i d l)
    (apart-pieces es pieces (λ k e lk. h (suc k) e (omega arith)) i d l)

-- pieces that are apart have each edge once together
pub once-pieces : (n : ℕ) (pieces : List (List Edge)) → All (ListsEachOnce n) pieces → AllPairs AreDisjoint pieces → ListsEachOnce n (edges_of_pieces pieces)
once-pieces n [] all apart = once-right n None [] tt
once-pieces n (p ∷ pieces) all apart =
    once-append n p (edges_of_pieces pieces) (all 0 p (omega arith))
    (once-pieces n pieces (λ k d l. all (suc k) d (omega arith)) (λ i j d lt l. apart (suc i) (suc j) d (omega arith) (omega arith)))
    (apart-pieces p pieces (λ k d l. apart 0 (suc k) d (omega arith) (omega arith)))

-- pieces are apart where a function tells of each edge in which it is
pub parted-apart : (part : Edge → ℕ) (pieces : List (List Edge))
    → ((k : ℕ) (d : List Edge) → k < length pieces → All (λ e. part e ≡ k) (get_or pieces k d)) → AllPairs AreDisjoint pieces
parted-apart part pieces h i j d lt l a e la b f lb same =
    let first : part (get_or (get_or pieces i d) a e) ≡ i = h i d (omega arith) a e la in
    let second : part (get_or (get_or pieces j d) b f) ≡ j = h j d l b f lb in
    absurd (omega (arith, first, second, ap part same))
