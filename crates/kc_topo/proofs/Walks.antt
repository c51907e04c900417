-- Walks along arcs, in a list that is topological for them.
use Rattle.std.proofs.Common.{◌≡◌, ◌≢◌, ◌<◌, ◌⊎◌, ℕ, true, List, [], ◌∷◌, ◌++◌, length, get_or, refl, sym, ap, ◌∙◌, subst, arith, inl, inr}
use Rattle.std.proofs.lemmas.Bool.{cases_eq, cases_lt, false≢true}
use Rattle.kc_lists.specs.Lists.{member, place_of}
use Rattle.kc_lists.proofs.Members.{member-cases, place_of-first, place_of-next}
use Rattle.kc_order.specs.Standing.{StandsBefore}
use Rattle.kc_order.proofs.Orders.{stands-once}
use Rattle.kc_topo.specs.Arcs.{IsTopological, LeadsTo, Reaches, has_arc}

-- Places in a list. --------------------------------------------------------------------------------

-- a member stands at its place
pub at-place : (x : ℕ) (zs : List ℕ) → member x zs ≡ true → (place_of x zs < length zs) × (get_or zs (place_of x zs) 0 ≡ x)
at-place x [] m = absurd (false≢true m)
at-place x (z ∷ zs) m = elim (cases_eq x z) [
  | inl e ↦ (omega (arith, place_of-first x z zs e), ap (λ k. get_or (z ∷ zs) k 0) (place_of-first x z zs e) ∙ sym e)
  | inr ne ↦ elim (member-cases x z zs m) [
    | inl e ↦ absurd (ne e)
    | inr k ↦ let at = at-place x zs k in (
      omega (arith, place_of-next x z zs ne, at.0),
      ap (λ k. get_or (z ∷ zs) k 0) (place_of-next x z zs ne) ∙ at.1,
    )
  ]
]

-- of two different members one stands first
pub one-first : (x y : ℕ) (zs : List ℕ) → member x zs ≡ true → member y zs ≡ true → x ≢ y → StandsBefore x y zs ⊎ StandsBefore y x zs
one-first x y zs m n ne = elim (cases_lt (place_of x zs) (place_of y zs)) [
  | inl l ↦ inl record { first = m; second = n; before = l }
  | inr g ↦ elim (cases_eq (place_of x zs) (place_of y zs)) [
    | inl e ↦ absurd (ne (sym (at-place x zs m).1 ∙ (ap (λ k. get_or zs k 0) e ∙ (at-place y zs n).1)))
    | inr other ↦ inr record { first = n; second = m; before = omega (arith, g, other) }
  ]
]

-- none stands before itself
pub never-itself : (x : ℕ) (zs : List ℕ) → StandsBefore x x zs → ⊥
never-itself x zs s = stands-once x x zs s s

-- what stands before one that stands before a third stands before that
pub stands-on : (x y z : ℕ) (zs : List ℕ) → StandsBefore x y zs → StandsBefore y z zs → StandsBefore x z zs
stands-on x y z zs s t = record { first = s.first; second = t.second; before = omega (arith, s.before, t.before) }

-- Walks. ---------------------------------------------------------------------------------------------

-- each vertex reaches itself
pub reaches-self : (arcs : List (ℕ × ℕ)) (b : ℕ) → Reaches arcs b b
reaches-self arcs b = (b ∷ [], (refl, refl))

-- steps along arcs lead on by one arc more
leads-push : (arcs : List (ℕ × ℕ)) (v w a : ℕ) (ws : List ℕ) → LeadsTo arcs v w ws → has_arc arcs w a ≡ true → LeadsTo arcs v a (ws ++ a ∷ [])
leads-push arcs v w a [] h arc = (subst (λ (z : ℕ). has_arc arcs z a ≡ true) (sym h) arc, refl)
leads-push arcs v w a (x ∷ ws) h arc = (h.0, leads-push arcs x w a ws h.1 arc)

-- what an arc leads to from a vertex that was reached is reached
pub reaches-on : (arcs : List (ℕ × ℕ)) (b v w : ℕ) → Reaches arcs b v → has_arc arcs v w ≡ true → Reaches arcs b w
reaches-on arcs b v w ([], h) arc = absurd h
reaches-on arcs b v w (x ∷ vs, h) arc = (x ∷ (vs ++ w ∷ []), (h.0, leads-push arcs x v w vs h.1 arc))

-- a walk without its first vertex
pub steps-of : (arcs : List (ℕ × ℕ)) (b v : ℕ) → Reaches arcs b v → (ws : List ℕ) × LeadsTo arcs b v ws
steps-of arcs b v ([], h) = absurd h
steps-of arcs b v (x ∷ vs, h) = (vs, subst (λ (z : ℕ). LeadsTo arcs z v vs) h.0 h.1)

-- a walk ends where it began, or later in the list
pub leads-later : (arcs : List (ℕ × ℕ)) (list : List ℕ) → IsTopological arcs list → (v a : ℕ) (ws : List ℕ) → LeadsTo arcs v a ws
    → (v ≡ a) ⊎ StandsBefore v a list
leads-later arcs list top v a [] h = inl h
leads-later arcs list top v a (w ∷ ws) h =
    let one = top v w h.0 in
    elim (leads-later arcs list top w a ws h.1) [
      | inl e ↦ inr (subst (λ (z : ℕ). StandsBefore v z list) e one)
      | inr s ↦ inr (stands-on v w a list one s)
    ]

-- what a vertex reaches is itself, or stands later in a topological list
pub reaches-later : (arcs : List (ℕ × ℕ)) (list : List ℕ) → IsTopological arcs list → (b v : ℕ) → Reaches arcs b v → (b ≡ v) ⊎ StandsBefore b v list
reaches-later arcs list top b v r = let s = steps-of arcs b v r in leads-later arcs list top b v s.0 s.1

-- no walk leads back to a vertex that stands before its first one
pub none-back : (arcs : List (ℕ × ℕ)) (list : List ℕ) → IsTopological arcs list → (a b : ℕ) → StandsBefore a b list → Reaches arcs b a → ⊥
none-back arcs list top a b s r = elim (reaches-later arcs list top b a r) [
  | inl e ↦ never-itself a list (subst (λ (z : ℕ). StandsBefore a z list) e s)
  | inr t ↦ stands-once a b list s t
]
