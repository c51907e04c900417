-- What the search leaves once the queue is empty, with all candidates raised: both counts of the certificate, at each vertex.
use Rattle.std.proofs.Common.{◌≡◌, ◌≢◌, ◌≤◌, ◌<◌, ◌+◌, ℕ, Bool, true, false, cond, ◌&&◌, ◌||◌, List, [], ltb, leb, sym, ◌∙◌, ap, subst, inl, inr}
use Rattle.std.proofs.Common.{arith, true≢false, eq-eqb, le_trans}
use Rattle.std.proofs.lemmas.Bool.{cases_Bool, cases_eq, cases_lt, cases_order, false≢true}
use Rattle.kc_lists.specs.Lists.{member}
use Rattle.kc_lists.proofs.Counting.{one_if}
use Rattle.kc_cert.specs.Ranks.{then_after}
use Rattle.kc_view.specs.Search.{Search, among, on_level, above, after, OnLevel}
use Rattle.kc_view.proofs.Among.{among-agree, among-mono, among-sum}
use Rattle.kc_insert.specs.Searching.{ahead, coming, holding, behind, Widened, Searching, AllStrong}
use Rattle.kc_insert.proofs.Steps.{ahead-later, coming_at, holding_at, behind_at, skipped_at}

-- the core number of a vertex after the rise
abbrev pub raised : (ℕ → ℕ) → ℕ → List ℕ → ℕ → ℕ
raised core level rise y = cond (member y rise) (level + 1) (core y)

-- whether a vertex stood below the level or in it
abbrev pub is_low : Search → ℕ → Bool
is_low s y = leb (s.core y) s.level

-- a vertex of the level has at most one neighbour more ahead than the level
ahead-few : (s : Search) (root : ℕ) → Widened s root → (z : ℕ) → OnLevel s z → ahead s z ≤ s.level + 1
ahead-few s root c z oz = elim (cases_eq z root) [
  | inl e ↦
      let k : among s z (after s z) ≡ among s root (after s root) = ap (λ n. among s n (after s n)) e in
      omega (arith, k, ahead-later s root c z oz, c.few_root)
  | inr ne ↦ omega (arith, ahead-later s root c z oz, c.few z oz.here ne, oz.level)
]

-- a neighbour of the level that rises counts for a candidate either before it or behind it
support_cand : (u l m : Bool) (rz ry f : ℕ) → u ≡ false → l ≡ true → m ≡ true → ry ≢ rz
    → one_if (u || m) ≡ one_if (m && ltb ry rz) + one_if (u || (l && (ltb rz ry && (m || leb f ry))))
support_cand u l m rz ry f hu hl hm ne = grind arith

-- Once the queue is empty. --------------------------------------------------------------------------

module _ (s : Search) (root : ℕ) (cands : List ℕ) (frontier : ℕ) (earlier later place : ℕ → ℕ)
    (c : Widened s root) (h : Searching s root cands [] frontier earlier later place) where
  -- once nobody waits, each neighbour on the level of a candidate was passed
  no_open : (x y : ℕ) → member x cands ≡ true → OnLevel s y → s.adj x y ≡ true → s.rank y < frontier
  no_open x y m oy a =
      elim (cases_lt (s.rank y) frontier) [ inl lt ↦ lt | inr ge ↦ absurd (false≢true (h.queued x y m oy a ge)) ]

  -- a vertex that is not of the level is no candidate
  no_cand : (y : ℕ) → s.core y ≢ s.level → member y cands ≡ false
  no_cand y off = elim (cases_Bool (member y cands)) [ inl m ↦ absurd (off (h.cand_level y m).level) | inr n ↦ n ]

  -- a vertex of the level that does not rise has few neighbours behind it
  pub few_behind : (z : ℕ) → OnLevel s z → member z cands ≡ false → behind s cands place z ≤ s.level
  few_behind z oz none =
      elim (cases_lt (s.rank z) frontier) [
        | inl passed ↦ h.done z oz passed none
        | inr open' ↦
            let not_root : z ≢ root = λ e. false≢true (h.root_queued (subst (λ (k : ℕ). frontier ≤ s.rank k) e open')) in
            let all : behind s cands place z ≡ ahead s z =
            among-agree s z (behind_at s cands place z) (λ y. above s y || (on_level s y && after s z y)) (λ y l a.
            elim (cases_eq (s.core y) s.level) [
              | inl lvl ↦
                  let oy : OnLevel s y = record { here = l; level = lvl } in
                  let gone : member y cands ≡ false = elim (cases_Bool (member y cands)) [
                    | inl m ↦ absurd (omega (arith, no_open y z m oz (c.symmetric y z ∙ a)))
                    | inr n ↦ n
                  ] in
                  let same : ltb (place z) (place y) ≡ ltb (s.rank z) (s.rank y) =
                  skipped_at s root cands [] frontier earlier later place c h z y oz oy open' gone in
                  grind (arith, gone, same)
              | inr ne ↦ grind (arith, ne)
            ]) in
            omega (arith, all, ahead-later s root c z oz, c.few z oz.here not_root, oz.level)
      ]

  -- places of vertices of other levels are as they were
  kept_at : (z y : ℕ) → z < s.size → y < s.size → s.core z ≢ s.level → s.core y ≢ s.level → ltb (place z) (place y) ≡ ltb (s.rank z) (s.rank y)
  kept_at z y lz ly nz ny = elim (cases_order (s.rank z) (s.rank y)) [
    | inl same ↦ let e : z ≡ y = c.apart z y lz ly same in let e' : place z ≡ place y = ap place e in grind (arith, e')
    | inr (inl lt) ↦ let k : place z < place y = h.others_kept z y lz ly nz ny lt in grind (arith, k)
    | inr (inr lt) ↦ let k : place y < place z = h.others_kept y z ly lz ny nz lt in grind (arith, k)
  ]

  -- after all turns, who comes after a vertex of the level that does not rise is who is behind it
  level_at : (z : ℕ) → OnLevel s z → member z cands ≡ false → (y : ℕ) → y < s.size → then_after (is_low s) cands s.rank place z y ≡ behind_at s cands place z y
  level_at z oz none y l =
      let lz : s.core z ≡ s.level = oz.level in
      elim (cases_Bool (member y cands)) [
        | inl m ↦ let lvl : s.core y ≡ s.level = (h.cand_level y m).level in grind (arith, none, m, lvl, lz)
        | inr n ↦ elim (cases_order (s.core y) s.level) [
          | inl lvl ↦ grind (arith, none, n, lvl, lz)
          | inr (inl lt) ↦ let k : place y < place z = h.lower_first y z l oz lt in grind (arith, none, n, lt, lz, k)
          | inr (inr lt) ↦ grind (arith, none, n, lt, lz)
        ]
      ]

  -- after all turns, who comes after a vertex below the level is who came after it before
  low_at : (z : ℕ) → z < s.size → s.core z < s.level → member z cands ≡ false → (y : ℕ) → y < s.size
      → then_after (is_low s) cands s.rank place z y ≡ after s z y
  low_at z lz lt none y l =
      elim (cases_lt (s.core y) s.level) [
        | inl low ↦
            let n : member y cands ≡ false = no_cand y (omega arith) in
            let k : ltb (place z) (place y) ≡ ltb (s.rank z) (s.rank y) = kept_at z y lz l (omega arith) (omega arith) in
            grind (arith, none, n, low, lt, k)
        | inr ge ↦
            let up : s.rank z < s.rank y = c.rising z y lz l (omega arith) in
            elim (cases_Bool (member y cands)) [
              | inl m ↦ grind (arith, none, m, lt, up)
              | inr n ↦ elim (cases_eq (s.core y) s.level) [
                | inl lvl ↦ let k : place z < place y = h.lower_first z y lz (record { here = l; level = lvl }) lt in grind (arith, none, n, lt, lvl, up, k)
                | inr ne ↦ let high : s.level < s.core y = omega (arith, ne, ge) in grind (arith, none, n, lt, high, up)
              ]
            ]
      ]

  -- after all turns, who comes after a vertex above the level is who came after it before
  high_at : (z : ℕ) → z < s.size → s.level < s.core z → member z cands ≡ false → (y : ℕ) → y < s.size
      → then_after (is_low s) cands s.rank place z y ≡ after s z y
  high_at z lz lt none y l =
      elim (cases_lt s.level (s.core y)) [
        | inl high ↦
            let n : member y cands ≡ false = no_cand y (omega arith) in
            let k : ltb (place z) (place y) ≡ ltb (s.rank z) (s.rank y) = kept_at z y lz l (omega arith) (omega arith) in
            grind (arith, none, n, high, lt, k)
        | inr le ↦
            let down : s.rank y < s.rank z = c.rising y z l lz (omega arith) in
            elim (cases_Bool (member y cands)) [ inl m ↦ grind (arith, none, m, lt, down) | inr n ↦ grind (arith, none, n, lt, le, down) ]
      ]

  -- after all turns, a neighbour above or rising counts for a candidate before it or behind it, once
  support_at : (z : ℕ) → member z cands ≡ true → (y : ℕ) → y < s.size → s.adj z y ≡ true
      → one_if (above s y || member y cands) ≡ one_if (coming_at s cands z y) + one_if (holding_at s cands frontier z y)
  support_at z m y l a =
      let oz : OnLevel s z = h.cand_level z m in
      elim (cases_Bool (member y cands)) [
        | inl my ↦
            let lvl : s.core y ≡ s.level = (h.cand_level y my).level in
            let ne : s.rank y ≢ s.rank z = λ e. let y-z : y ≡ z = c.apart y z l oz.here e in true≢false (sym a ∙ (ap (s.adj z) y-z ∙ c.no_loop z)) in
            support_cand (above s y) (on_level s y) (member y cands) (s.rank z) (s.rank y) frontier (grind (arith, lvl)) (eq-eqb (s.core y) s.level lvl) my ne
        | inr n ↦ elim (cases_eq (s.core y) s.level) [
          | inl lvl ↦
              let lt : s.rank y < frontier = no_open z y m (record { here = l; level = lvl }) a in
              grind (arith, n, lvl, lt)
          | inr ne ↦ grind (arith, n, ne)
        ]
      ]

  -- after the rise each vertex has few later neighbours
  pub few_after : (z : ℕ) → z < s.size → among s z (then_after (is_low s) cands s.rank place z) ≤ raised s.core s.level cands z
  few_after z lz =
      elim (cases_Bool (member z cands)) [
        | inl m ↦
            let oz : OnLevel s z = h.cand_level z m in
            let up : raised s.core s.level cands z ≡ s.level + 1 = ap (λ b. cond b (s.level + 1) (s.core z)) m in
            let fewer : among s z (then_after (is_low s) cands s.rank place z) ≤ ahead s z =
            among-mono s z (then_after (is_low s) cands s.rank place z) (λ y. above s y || (on_level s y && after s z y)) (λ y l a t.
            elim (cases_Bool (member y cands)) [
              | inl my ↦ let lvl : s.core y ≡ s.level = (h.cand_level y my).level in grind (arith, m, my, lvl, t)
              | inr ny ↦ grind (arith, m, ny, t)
            ]) in
            omega (arith, up, fewer, ahead-few s root c z oz)
        | inr none ↦
            let up : raised s.core s.level cands z ≡ s.core z = ap (λ b. cond b (s.level + 1) (s.core z)) none in
            elim (cases_order (s.core z) s.level) [
              | inl lvl ↦
                  let oz : OnLevel s z = record { here = lz; level = lvl } in
                  let same : among s z (then_after (is_low s) cands s.rank place z) ≡ behind s cands place z =
                  among-agree s z (then_after (is_low s) cands s.rank place z) (behind_at s cands place z)
                  (λ y l a. level_at z oz none y l) in
                  omega (arith, up, same, few_behind z oz none, lvl)
              | inr (inl lt) ↦
                  let ne : z ≢ root = λ e. let k : s.core z ≡ s.level = ap s.core e ∙ c.root_level in absurd (omega arith) in
                  let same : among s z (then_after (is_low s) cands s.rank place z) ≡ among s z (after s z) =
                  among-agree s z (then_after (is_low s) cands s.rank place z) (after s z)
                  (λ y l a. low_at z lz lt none y l) in
                  omega (arith, up, same, c.few z lz ne)
              | inr (inr lt) ↦
                  let ne : z ≢ root = λ e. let k : s.core z ≡ s.level = ap s.core e ∙ c.root_level in absurd (omega arith) in
                  let same : among s z (then_after (is_low s) cands s.rank place z) ≡ among s z (after s z) =
                  among-agree s z (then_after (is_low s) cands s.rank place z) (after s z)
                  (λ y l a. high_at z lz lt none y l) in
                  omega (arith, up, same, c.few z lz ne)
            ]
      ]

  -- after the rise each vertex has enough neighbours that are as high
  pub enough_after : AllStrong s cands earlier later
      → (z : ℕ) → z < s.size → raised s.core s.level cands z ≤ among s z (λ y. leb (raised s.core s.level cands z) (raised s.core s.level cands y))
  enough_after strong z lz =
      elim (cases_Bool (member z cands)) [
        | inl m ↦
            let oz : OnLevel s z = h.cand_level z m in
            let up : raised s.core s.level cands z ≡ s.level + 1 = ap (λ b. cond b (s.level + 1) (s.core z)) m in
            let all : among s z (λ y. above s y || member y cands) ≡ coming s cands z + holding s cands frontier z =
            among-sum s z (coming_at s cands z) (holding_at s cands frontier z) (λ y. above s y || member y cands)
            (λ y l a. support_at z m y l a) in
            let high : among s z (λ y. above s y || member y cands) ≤ among s z (λ y. leb (s.level + 1) (raised s.core s.level cands y)) =
            among-mono s z (λ y. above s y || member y cands) (λ y. leb (s.level + 1) (raised s.core s.level cands y))
            (λ y l a t. elim (cases_Bool (member y cands)) [ inl k ↦ grind (arith, k) | inr k ↦ grind (arith, k, t) ]) in
            subst (λ (k : ℕ). k ≤ among s z (λ y. leb k (raised s.core s.level cands y))) (sym up)
            (omega (arith, all, high, strong.strong z m, h.earlier_of_cand z m, h.later_of_cand z m))
        | inr none ↦
            let up : raised s.core s.level cands z ≡ s.core z = ap (λ b. cond b (s.level + 1) (s.core z)) none in
            let more : among s z (λ y. leb (s.core z) (s.core y)) ≤ among s z (λ y. leb (s.core z) (raised s.core s.level cands y)) =
            among-mono s z (λ y. leb (s.core z) (s.core y)) (λ y. leb (s.core z) (raised s.core s.level cands y)) (λ y l a t.
            elim (cases_Bool (member y cands)) [
              | inl k ↦ let lvl : s.core y ≡ s.level = (h.cand_level y k).level in grind (arith, k, lvl, t)
              | inr k ↦ grind (arith, k, t)
            ]) in
            subst (λ (k : ℕ). k ≤ among s z (λ y. leb k (raised s.core s.level cands y))) (sym up) (le_trans (c.enough z lz) more)
      ]
