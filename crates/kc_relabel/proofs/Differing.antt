-- A schedule names the places whose label differs.
use Rattle.std.proofs.Common.{◌≡◌, ◌≢◌, ℕ, suc, zero, ◌+◌, ◌<◌, Bool, true, false, cond, List, [], ◌∷◌, length, get_or, ltb, refl, sym, ◌∙◌, ap}
use Rattle.std.proofs.Common.{subst, inl, inr, arith}
use Rattle.std.proofs.lemmas.Bool.{lt-ltb, ltb-true, cases_lt, false≢true}
use Rattle.kc_lists.specs.Lists.{member}
use Rattle.kc_lists.proofs.Members.{member-head, member-cases, member-append, member-append_left, member-append_right}
use Rattle.kc_relabel.specs.Labels.{ups, downs, schedule_of, places}
use Rattle.kc_relabel.proofs.Once.{places-append}

-- where a write stands there if a test passes, a place named is its own, and the test passes
one_place : (i b p : ℕ) (t : Bool) → member p (places (cond t ((i, b) ∷ []) [])) ≡ true → (t ≡ true) × (p ≡ i)
one_place i b p true m = elim (member-cases p i [] m) [ inl e ↦ (refl, e) | inr k ↦ absurd (false≢true k) ]
one_place i b p false m = absurd (false≢true m)

-- where a write stands there if a test passes, its place is named when the test passes
place-named : (i b p : ℕ) (t : Bool) → t ≡ true → p ≡ i → member p (places (cond t ((i, b) ∷ []) [])) ≡ true
place-named i b p t e is = ap (λ u. member p (places (cond u ((i, b) ∷ []) []))) e ∙ (ap (λ q. member q (i ∷ [])) is ∙ member-head i [])

-- a place that the first loop names has a label that grows
pub named-grows : (i : ℕ) (os ns : List ℕ) (p : ℕ) → member p (places (ups i os ns)) ≡ true → (q : ℕ) × (p ≡ i + q) × (get_or os q 0 < get_or ns q 0)
named-grows i [] ns p m = absurd (false≢true m)
named-grows i (a ∷ os) [] p m = absurd (false≢true m)
named-grows i (a ∷ os) (b ∷ ns) p m =
    elim (member-append p (places (ups (suc i) os ns)) (places (cond (ltb a b) ((i, b) ∷ []) []))
    (ap (member p) (sym (places-append (ups (suc i) os ns) (cond (ltb a b) ((i, b) ∷ []) []))) ∙ m)) [
      | inl k ↦ let r = named-grows (suc i) os ns p k in let e : p ≡ suc i + r.0 = r.1 in (suc r.0, omega arith, r.2)
      | inr k ↦ let r = one_place i b p (ltb a b) k in (zero, omega (arith, r.1), ltb-true a b r.0)
    ]

-- a place that the second loop names has a label that shrinks
named-shrinks : (i : ℕ) (os ns : List ℕ) (p : ℕ) → member p (places (downs i os ns)) ≡ true → (q : ℕ) × (p ≡ i + q) × (get_or ns q 0 < get_or os q 0)
named-shrinks i [] ns p m = absurd (false≢true m)
named-shrinks i (a ∷ os) [] p m = absurd (false≢true m)
named-shrinks i (a ∷ os) (b ∷ ns) p m =
    elim (member-append p (places (cond (ltb b a) ((i, b) ∷ []) [])) (places (downs (suc i) os ns))
    (ap (member p) (sym (places-append (cond (ltb b a) ((i, b) ∷ []) []) (downs (suc i) os ns))) ∙ m)) [
      | inl k ↦ let r = one_place i b p (ltb b a) k in (zero, omega (arith, r.1), ltb-true b a r.0)
      | inr k ↦ let r = named-shrinks (suc i) os ns p k in let e : p ≡ suc i + r.0 = r.1 in (suc r.0, omega arith, r.2)
    ]

-- the first loop names each place whose label grows
grown-named : (i : ℕ) (os ns : List ℕ) (p q : ℕ) → p ≡ i + q → q < length os → q < length ns → get_or os q 0 < get_or ns q 0
    → member p (places (ups i os ns)) ≡ true
grown-named i [] ns p q is l k lt = absurd (omega arith)
grown-named i (a ∷ os) [] p q is l k lt = absurd (omega arith)
grown-named i (a ∷ os) (b ∷ ns) p zero is l k lt =
    ap (member p) (places-append (ups (suc i) os ns) (cond (ltb a b) ((i, b) ∷ []) []))
    ∙ member-append_right p (places (ups (suc i) os ns)) (places (cond (ltb a b) ((i, b) ∷ []) [])) (place-named i b p (ltb a b) (lt-ltb a b lt) (omega arith))
grown-named i (a ∷ os) (b ∷ ns) p (suc q) is l k lt =
    ap (member p) (places-append (ups (suc i) os ns) (cond (ltb a b) ((i, b) ∷ []) []))
    ∙ member-append_left p (places (ups (suc i) os ns)) (places (cond (ltb a b) ((i, b) ∷ []) []))
    (grown-named (suc i) os ns p q (omega arith) (omega arith) (omega arith) lt)

-- the second loop names each place whose label shrinks
shrunk-named : (i : ℕ) (os ns : List ℕ) (p q : ℕ) → p ≡ i + q → q < length os → q < length ns → get_or ns q 0 < get_or os q 0
    → member p (places (downs i os ns)) ≡ true
shrunk-named i [] ns p q is l k lt = absurd (omega arith)
shrunk-named i (a ∷ os) [] p q is l k lt = absurd (omega arith)
shrunk-named i (a ∷ os) (b ∷ ns) p zero is l k lt =
    ap (member p) (places-append (cond (ltb b a) ((i, b) ∷ []) []) (downs (suc i) os ns))
    ∙ member-append_left p (places (cond (ltb b a) ((i, b) ∷ []) [])) (places (downs (suc i) os ns)) (place-named i b p (ltb b a) (lt-ltb b a lt) (omega arith))
shrunk-named i (a ∷ os) (b ∷ ns) p (suc q) is l k lt =
    ap (member p) (places-append (cond (ltb b a) ((i, b) ∷ []) []) (downs (suc i) os ns))
    ∙ member-append_right p (places (cond (ltb b a) ((i, b) ∷ []) [])) (places (downs (suc i) os ns))
    (shrunk-named (suc i) os ns p q (omega arith) (omega arith) (omega arith) lt)

-- at a place that the schedule names, the labels differ
pub schedule-differs : (os ns : List ℕ) (p : ℕ) → member p (places (schedule_of os ns)) ≡ true → get_or os p 0 ≢ get_or ns p 0
schedule-differs os ns p m e =
    elim (member-append p (places (ups 0 os ns)) (places (downs 0 os ns)) (ap (member p) (sym (places-append (ups 0 os ns) (downs 0 os ns))) ∙ m)) [
      | inl k ↦ let r = named-grows 0 os ns p k in let is : p ≡ r.0 = omega (arith, r.1) in
          absurd (let lt : get_or os p 0 < get_or ns p 0 = subst (λ q. get_or os q 0 < get_or ns q 0) (sym is) r.2 in omega arith)
      | inr k ↦ let r = named-shrinks 0 os ns p k in let is : p ≡ r.0 = omega (arith, r.1) in
          absurd (let lt : get_or ns p 0 < get_or os p 0 = subst (λ q. get_or ns q 0 < get_or os q 0) (sym is) r.2 in omega arith)
    ]

-- the schedule names each place at which the labels differ
pub differs-schedule : (os ns : List ℕ) (p : ℕ) → length os ≡ length ns → p < length os → get_or os p 0 ≢ get_or ns p 0
    → member p (places (schedule_of os ns)) ≡ true
differs-schedule os ns p e l ne =
    ap (member p) (places-append (ups 0 os ns) (downs 0 os ns)) ∙ elim (cases_lt (get_or os p 0) (get_or ns p 0)) [
      | inl lt ↦ member-append_left p (places (ups 0 os ns)) (places (downs 0 os ns)) (grown-named 0 os ns p p (omega arith) l (omega arith) lt)
      | inr ge ↦ member-append_right p (places (ups 0 os ns)) (places (downs 0 os ns)) (shrunk-named 0 os ns p p (omega arith) l (omega arith) (omega arith))
    ]
