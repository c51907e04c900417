-- The two ends of one edge.
use Rattle.std.proofs.Common.{◌≡◌, ◌<◌, ℕ, Bool, true, cond, ◌&&◌, ◌||◌, eqb, ◌∙◌, ap, ap₂, inl, inr, arith, ◌⊎◌, eqb-true, eq-eqb, lt-ltb, le-ltb, refl}
use Rattle.std.specs.Cmp.{both_ways}
use Rattle.std.specs.FinSet.{contains}
use Rattle.std.proofs.lemmas.Bool.{cases_lt, or_cases, or_left, or_right, and_parts, and_from}
use Rattle.kc_graph.specs.SimpleGraph.{SimpleGraph, adjacent}
use Rattle.kc_graph.specs.Edges.{edge}

-- whether a and b are u and v
abbrev pub joins : ℕ → ℕ → ℕ → ℕ → Bool
joins u v a b = (eqb a u && eqb b v) || (eqb a v && eqb b u)

-- who is joined is the one end and the other, in either order
pub joins-true : (u v a b : ℕ) → joins u v a b ≡ true → ((a ≡ u) × (b ≡ v)) ⊎ ((a ≡ v) × (b ≡ u))
joins-true u v a b h = elim (or_cases _ _ h) [
  | inl k ↦ let p = and_parts (eqb a u) (eqb b v) k in inl (eqb-true a u p.0, eqb-true b v p.1)
  | inr k ↦ let p = and_parts (eqb a v) (eqb b u) k in inr (eqb-true a v p.0, eqb-true b u p.1)
]

-- the first end is joined to the second
pub joins-first : (u v a b : ℕ) → a ≡ u → b ≡ v → joins u v a b ≡ true
joins-first u v a b e f = or_left _ _ (and_from _ _ (eq-eqb a u e) (eq-eqb b v f))

-- the second end is joined to the first
pub joins-second : (u v a b : ℕ) → a ≡ v → b ≡ u → joins u v a b ≡ true
joins-second u v a b e f = or_right (eqb a u && eqb b v) _ (and_from _ _ (eq-eqb a v e) (eq-eqb b u f))

-- an edge joins two vertices in either order
pub joins-sym : (u v a b : ℕ) → joins u v a b ≡ joins u v b a
joins-sym u v a b = both_ways _ _
    (λ h. elim (joins-true u v a b h) [ inl k ↦ joins-second u v b a k.1 k.0 | inr k ↦ joins-first u v b a k.1 k.0 ])
    (λ h. elim (joins-true u v b a h) [ inl k ↦ joins-second u v a b k.1 k.0 | inr k ↦ joins-first u v a b k.1 k.0 ])

-- two vertices that an edge joins, the lesser first, are the pair of that edge
pub joins-edge : (u v a b : ℕ) → (u ≡ v → ⊥) → a < b → joins u v a b ≡ true → (a, b) ≡ edge u v
joins-edge u v a b differ l j = elim (joins-true u v a b j) [
  | inl p ↦ rw (lt-ltb u v (omega (arith, p.0, p.1))) (ap₂ (λ (s t : ℕ). (s, t)) p.0 p.1)
  | inr p ↦ rw (le-ltb u v (omega (arith, p.0, p.1))) (ap₂ (λ (s t : ℕ). (s, t)) p.0 p.1)
]

-- the pair of an edge has its lesser end first, and the edge joins its ends
pub edge-joins : (u v a b : ℕ) → (u ≡ v → ⊥) → (a, b) ≡ edge u v → (a < b) × (joins u v a b ≡ true)
edge-joins u v a b differ e = elim (cases_lt u v) [
  | inl l ↦
      let f : (a, b) ≡ (u, v) = e ∙ ap (λ t. cond t (u, v) (v, u)) (lt-ltb u v l) in
      let a-is : a ≡ u = ap (λ (x : ℕ × ℕ). x.0) f in let b-is : b ≡ v = ap (λ (x : ℕ × ℕ). x.1) f in
      (omega arith, joins-first u v a b a-is b-is)
  | inr l ↦
      let f : (a, b) ≡ (v, u) = e ∙ ap (λ t. cond t (u, v) (v, u)) (le-ltb u v l) in
      let a-is : a ≡ v = ap (λ (x : ℕ × ℕ). x.0) f in let b-is : b ≡ u = ap (λ (x : ℕ × ℕ). x.1) f in
      (omega arith, joins-second u v a b a-is b-is)
]

-- the set has the edge just where it joins the two
pub contains-edge : (g : SimpleGraph) (u v : ℕ) → (u ≡ v → ⊥) → contains g.edges (edge u v) ≡ adjacent g u v
contains-edge g u v differ = elim (cases_lt u v) [
  | inl l ↦ rw (lt-ltb u v l) refl
  | inr l ↦ let lt : v < u = omega arith in rw (le-ltb u v l, lt-ltb v u lt) refl
]
