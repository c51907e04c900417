-- The layers are the same for all who take them step by step.
use Rattle.std.proofs.Common.{◌≡◌, ◌≤◌, ◌<◌, ◌+◌, ℕ, suc, zero, false, ◌&&◌, ◌||◌, List, min, eqb, leb, ltb, sym, ◌∙◌, ap}
use Rattle.std.proofs.Common.{inl, inr, arith, leb-true, le-leb}
use Rattle.std.proofs.lemmas.List.{ext_get_or}
use Rattle.std.proofs.lemmas.Bool.{cases_lt, cases_eq, false_from_ne_true}
use Rattle.kc_lists.specs.Lists.{below}
use Rattle.kc_lists.proofs.Counting.{count-agree, below-member}
use Rattle.kc_graph.specs.SimpleGraph.{SimpleGraph, adjacent}
use Rattle.kc_graph.specs.Peeling.{at}
use Rattle.kc_tally.specs.Layers.{is_left_at, left_at, AreLayers}

-- numbers that are the same up to `s` are both at least `s`, or both not
leb-same : (s a b : ℕ) → min a s ≡ min b s → leb s a ≡ leb s b
leb-same s a b e = elim (cases_lt a s) [
  | inl l ↦ no s a l ∙ sym (no s b (omega (arith, e, l)))
  | inr g ↦ le-leb s a g ∙ sym (le-leb s b (omega (arith, e, g)))
] where
  no : (s a : ℕ) → a < s → leb s a ≡ false
  no s a l = false_from_ne_true _ (λ t. absurd (omega (arith, leb-true s a t, l)))

module _ (g : SimpleGraph) (core : List ℕ) where
  -- ranks that are the same up to a step leave the same at it
  pub left_at-agree : (first second : List ℕ) (s v : ℕ) → ((w : ℕ) → w < g.size → min (at first w) s ≡ min (at second w) s)
      → left_at g core first s v ≡ left_at g core second s v
  left_at-agree first second s v same =
      count-agree (λ w. adjacent g v w && is_left_at core first (at core v) s w) (λ w. adjacent g v w && is_left_at core second (at core v) s w) (below g.size)
      (λ w m. ap (λ b. adjacent g v w && (ltb (at core v) (at core w) || (eqb (at core v) (at core w) && b)))
      (leb-same s (at first w) (at second w) (same w (below-member w g.size m))))

  -- who is taken at a step by some ranks is taken at it by others that are the same up to it
  taken-too : (first second : List ℕ) (s v : ℕ) → AreLayers g core first → AreLayers g core second
      → ((w : ℕ) → w < g.size → min (at first w) s ≡ min (at second w) s) → v < g.size → at first v ≡ s → at second v ≤ s
  taken-too first second s v a b same l is = elim (cases_lt s (at second v)) [
    | inr le ↦ le
    | inl up ↦ absurd (omega (arith, ap (λ k. left_at g core first k v) is, a.taken v l, b.not_before v s l up, left_at-agree first second s v same))
  ]

  -- so they are the same up to each step
  same_to : (first second : List ℕ) (s : ℕ) → AreLayers g core first → AreLayers g core second → (v : ℕ) → v < g.size → min (at first v) s ≡ min (at second v) s
  same_to first second zero a b v l = omega arith
  same_to first second (suc s) a b v l =
      let same : (w : ℕ) → w < g.size → min (at first w) s ≡ min (at second w) s = same_to first second s a b in
      elim (cases_eq (at first v) s) [
        | inl is ↦ omega (arith, same v l, is, taken-too first second s v a b same l is)
        | inr ne ↦ elim (cases_eq (at second v) s) [
          | inl is ↦ omega (arith, same v l, is, taken-too second first s v b a (λ w lw. sym (same w lw)) l is)
          | inr ne' ↦ omega (arith, same v l, ne, ne')
        ]
      ]

-- ranks that are layers are the same
pub layers-same : (g : SimpleGraph) (core first second : List ℕ) → AreLayers g core first → AreLayers g core second → first ≡ second
layers-same g core first second a b = ext_get_or 0 first second (a.one_each ∙ sym b.one_each)
    (λ v l. omega (arith, same_to g core first second (at first v + at second v) a b v (omega (arith, a.one_each, l))))
