-- Core numbers have layers: step by step some vertices are taken, until none is left.
use Rattle.std.proofs.Common.{◌≡◌, ◌≤◌, ◌<◌, ◌+◌, ◌⊎◌, ℕ, suc, zero, Bool, true, false, cond, List, map, length, leb, ltb, ◌∙◌, ap, inl, inr, arith}
use Rattle.std.proofs.Common.{lt-ltb, le-ltb, leb-true, le-leb}
use Rattle.std.specs.Prelude.{count_by}
use Rattle.std.specs.List.{range_with_len}
use Rattle.std.proofs.lemmas.Bool.{cases_lt, false_from_ne_true}
use Rattle.std.proofs.lemmas.List.FromFn.{get_or-map-range_with_len, length-map-range_with_len}
use Rattle.kc_lists.specs.Lists.{below}
use Rattle.kc_lists.proofs.Counting.{Distinct-below, below-member, count-le-length, length-below, member-below}
use Rattle.kc_graph.specs.Core.{AreCoreNumbers}
use Rattle.kc_graph.specs.Peeling.{at}
use Rattle.kc_graph.specs.SimpleGraph.{SimpleGraph}
use Rattle.kc_tally.specs.Layers.{AreLayers, left_at}
use Rattle.kc_tally.proofs.Steps.{count-fewer, none_waits}
use Rattle.kc_tally.proofs.Unique.{left_at-agree}

-- Ranks as they are known at the beginning of a step: who was taken before it has the step in which it was, and who is left has this one.
record AreKnownTo (g : SimpleGraph) (core : List ℕ) (step : ℕ) (rank : List ℕ) : Type 0 where
  one_each : length rank ≡ g.size
  within : (v : ℕ) → v < g.size → at rank v ≤ step
  taken : (v : ℕ) → v < g.size → at rank v < step → left_at g core rank (at rank v) v ≤ at core v
  not_before : (v s : ℕ) → v < g.size → s < at rank v → at core v < left_at g core rank s v

module _ (g : SimpleGraph) (core : List ℕ) where
  -- how many are left at a step
  abbrev waiting : ℕ → List ℕ → ℕ
  waiting step rank = count_by (λ v. leb step (at rank v)) (below g.size)

  -- what is known of the rank of a vertex one step later: who is left is taken in this step if it has few neighbours left
  abbrev next_rank : ℕ → List ℕ → ℕ → ℕ
  next_rank step rank v = cond (ltb (at rank v) step) (at rank v) (cond (leb (left_at g core rank step v) (at core v)) step (step + 1))

  -- the ranks of all
  abbrev next_ranks : ℕ → List ℕ → List ℕ
  next_ranks step rank = map (next_rank step rank) (range_with_len 0 g.size)

  module _ (step : ℕ) (rank : List ℕ) (h : AreKnownTo g core step rank) where
    -- a vertex was taken before, or is taken in this step, or is left to the next one
    Case : ℕ → Type 0
    Case v = ((at rank v < step) × (at (next_ranks step rank) v ≡ at rank v))
        ⊎ ((at rank v ≡ step) × (((left_at g core rank step v ≤ at core v) × (at (next_ranks step rank) v ≡ step))
        ⊎ ((at core v < left_at g core rank step v) × (at (next_ranks step rank) v ≡ step + 1))))

    case : (v : ℕ) → v < g.size → Case v
    unfolding Case
    case v l =
        let is : at (next_ranks step rank) v ≡ next_rank step rank v =
        get_or-map-range_with_len (next_rank step rank) 0 g.size v v 0 l (omega arith) in
        let later : ℕ = cond (leb (left_at g core rank step v) (at core v)) step (step + 1) in
        let not-few : at core v < left_at g core rank step v → leb (left_at g core rank step v) (at core v) ≡ false = λ many.
        false_from_ne_true _ (λ t. absurd (omega (arith, many, leb-true (left_at g core rank step v) (at core v) t))) in
        elim (cases_lt (at rank v) step) [
          | inl lt ↦ inl (lt, is ∙ ap (λ (b : Bool). cond b (at rank v) later) (lt-ltb (at rank v) step lt))
          | inr up ↦
              let waits : at (next_ranks step rank) v ≡ later =
              is ∙ ap (λ (b : Bool). cond b (at rank v) later) (le-ltb (at rank v) step up) in
              inr (
                omega (arith, up, h.within v l),
                elim (cases_lt (at core v) (left_at g core rank step v)) [
                  | inl many ↦ inr (
                    many,
                    waits ∙ ap (λ (b : Bool). cond b step (step + 1)) (not-few many),
                  )
                  | inr few ↦ inl (few, waits ∙ ap (λ (b : Bool). cond b step (step + 1)) (le-leb (left_at g core rank step v) (at core v) few))
                ],
              )
        ]

    -- up to this step nothing changes
    same : (s v : ℕ) → s ≤ step → left_at g core (next_ranks step rank) s v ≡ left_at g core rank s v
    unfolding Case
    same s v le = left_at-agree g core (next_ranks step rank) rank s v (λ w lw. elim (case w lw) [
      | inl c ↦ omega (arith, c.1)
      | inr c ↦ elim c.1 [ inl d ↦ omega (arith, c.0, d.1) | inr d ↦ omega (arith, c.0, d.1, le) ]
    ])

    -- the ranks as they are known at the next step
    next-known : AreKnownTo g core (step + 1) (next_ranks step rank)
    unfolding Case
    next-known = record {
      one_each = length-map-range_with_len (next_rank step rank) 0 g.size;
      within = λ v l. elim (case v l) [
        | inl c ↦ omega (arith, c.0, c.1)
        | inr c ↦ elim c.1 [ inl d ↦ omega (arith, d.1) | inr d ↦ omega (arith, d.1) ]
      ];
      taken = λ v l before. elim (case v l) [
        | inl c ↦
            omega (arith, ap (λ k. left_at g core (next_ranks step rank) k v) c.1, same (at rank v) v (omega (arith, c.0)), h.taken v l c.0)
        | inr c ↦ elim c.1 [
          | inl d ↦ omega (arith, ap (λ k. left_at g core (next_ranks step rank) k v) d.1, same step v (omega arith), d.0)
          | inr d ↦ absurd (omega (arith, before, d.1))
        ]
      ];
      not_before = λ v s l up. elim (case v l) [
        | inl c ↦ omega (arith, same s v (omega (arith, up, c.0, c.1)), h.not_before v s l (omega (arith, up, c.1)))
        | inr c ↦ elim c.1 [
          | inl d ↦ omega (arith, same s v (omega (arith, up, d.1)), h.not_before v s l (omega (arith, up, d.1, c.0)))
          | inr d ↦ elim (cases_lt s step) [
            | inl lt ↦ omega (arith, same s v (omega (arith, lt)), h.not_before v s l (omega (arith, lt, c.0)))
            | inr le ↦
                let is : s ≡ step = omega (arith, le, up, d.1) in
                omega (arith, ap (λ k. left_at g core (next_ranks step rank) k v) is, same step v (omega arith), d.0)
          ]
        ]
      ];
    }

    -- who is left to the next step was left
    was-left : (v : ℕ) → v < g.size → leb (step + 1) (at (next_ranks step rank) v) ≡ true → leb step (at rank v) ≡ true
    unfolding Case
    was-left v l t = elim (case v l) [
      | inl c ↦ absurd (omega (arith, c.0, c.1, leb-true (step + 1) (at (next_ranks step rank) v) t))
      | inr c ↦ le-leb step (at rank v) (omega (arith, c.0))
    ]

    -- where no fewer are left to the next step, all that were left have too many neighbours left
    all-many : waiting step rank ≤ waiting (step + 1) (next_ranks step rank) → (w : ℕ) → w < g.size → step ≤ at rank w
        → at core w < left_at g core rank step w
    unfolding Case
    all-many as-many w lw up = elim (case w lw) [
      | inl c ↦ absurd (omega (arith, c.0, up))
      | inr c ↦ elim c.1 [
        | inr d ↦ d.0
        | inl d ↦
            let fewer : waiting (step + 1) (next_ranks step rank) < waiting step rank =
            count-fewer (λ v. leb (step + 1) (at (next_ranks step rank) v)) (λ v. leb step (at rank v)) w (below g.size) (Distinct-below g.size)
            (member-below w g.size lw)
            (false_from_ne_true _ (λ t. absurd (omega (arith, d.1, leb-true (step + 1) (at (next_ranks step rank) w) t))))
            (le-leb step (at rank w) up) (λ y m t. was-left y (below-member y g.size m) t) in
            absurd (omega (arith, fewer, as-many))
      ]
    ]

    -- once all are taken, the ranks are layers
    all-taken : ((v : ℕ) → v < g.size → at rank v < step) → AreLayers g core rank
    all-taken all = record {
      one_each = h.one_each;
      taken = λ v l. h.taken v l (all v l);
      not_before = λ v s l up. h.not_before v s l up;
    }

  -- from any step on the layers are found, in at most as many steps as vertices are left
  found : (fuel step : ℕ) (rank : List ℕ) → AreCoreNumbers g core → AreKnownTo g core step rank → waiting step rank ≤ fuel
      → (layer : List ℕ) × AreLayers g core layer
  found zero step rank right h few =
      (rank, all-taken step rank h (λ v l. none_waits g core step rank right (all-many step rank h (omega (arith, few))) v l))
  found (suc fuel) step rank right h few = elim (cases_lt (waiting (step + 1) (next_ranks step rank)) (waiting step rank)) [
    | inr as-many ↦ (rank, all-taken step rank h (λ v l. none_waits g core step rank right (all-many step rank h as-many) v l))
    | inl fewer ↦ found fuel (step + 1) (next_ranks step rank) right (next-known step rank h) (omega (arith, few, fewer))
  ]

  -- Before the first step all are left.
  pub layers-exist : AreCoreNumbers g core → (layer : List ℕ) × AreLayers g core layer
  layers-exist right =
      let start : List ℕ = map (λ _. 0) (range_with_len 0 g.size) in
      let none : (v : ℕ) → v < g.size → at start v ≡ 0 = λ v l. get_or-map-range_with_len (λ _. 0) 0 g.size v v 0 l (omega arith) in
      found g.size 0 start right
      (record {
        one_each = length-map-range_with_len (λ _. 0) 0 g.size;
        within = λ v l. omega (arith, none v l);
        taken = λ v l before. absurd (omega (arith, before));
        not_before = λ v s l up. absurd (omega (arith, none v l, up));
      })
      (omega (arith, count-le-length (λ v. leb 0 (at start v)) (below g.size), length-below g.size))
