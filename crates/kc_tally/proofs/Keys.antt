-- The order of vertices by their keys is strict and total.
use Rattle.std.proofs.Common.{◌≡◌, ◌≢◌, ◌≤◌, ◌<◌, ℕ, Bool, true, false, ◌&&◌, ◌||◌, List, get_or, eqb, ltb, sym, ◌∙◌, ◌⊎◌, inl, inr, arith}
use Rattle.std.proofs.Common.{leb, ltb-true, lt-ltb, eqb-true, eq-eqb, le-leb}
use Rattle.std.proofs.lemmas.Bool.{or_cases, or_left, or_right, and_parts, and_from, cases_order, false_from_ne_true}
use Rattle.kc_tally.specs.Keys.{comes_before, has_lesser_key, stands_before}
use Rattle.kc_tally.specs.Layers.{is_left_at}

-- when three numbers come before three others: the first that differ decide
abbrev pub Less : ℕ → ℕ → ℕ → ℕ → ℕ → ℕ → Type 0
Less a b r s v w = (a < b) ⊎ ((a ≡ b) × ((r < s) ⊎ ((r ≡ s) × (v < w))))

-- where the test says so, they do
less-true : (a b r s v w : ℕ) → comes_before a b r s v w ≡ true → Less a b r s v w
less-true a b r s v w h = elim (or_cases (ltb a b) _ h) [
  | inl l ↦ inl (ltb-true a b l)
  | inr k ↦
      let p = and_parts (eqb a b) (ltb r s || (eqb r s && ltb v w)) k in
      inr (
        eqb-true a b p.0,
        elim (or_cases (ltb r s) (eqb r s && ltb v w) p.1) [
          | inl l ↦ inl (ltb-true r s l)
          | inr m ↦ let q = and_parts (eqb r s) (ltb v w) m in inr (eqb-true r s q.0, ltb-true v w q.1)
        ],
      )
]

-- where they do, the test says so
less-from : (a b r s v w : ℕ) → Less a b r s v w → comes_before a b r s v w ≡ true
less-from a b r s v w h = elim h [
  | inl l ↦ or_left (ltb a b) _ (lt-ltb a b l)
  | inr p ↦ or_right (ltb a b) _ (and_from _ _ (eq-eqb a b p.0) (elim p.1 [
    | inl l ↦ or_left (ltb r s) _ (lt-ltb r s l)
    | inr q ↦ or_right (ltb r s) _ (and_from _ _ (eq-eqb r s q.0) (lt-ltb v w q.1))
  ]))
]

-- what comes before what comes before a third comes before the third
Less-trans : (a b c r s t u v w : ℕ) → Less a b r s u v → Less b c s t v w → Less a c r t u w
Less-trans a b c r s t u v w h k = elim h [
  | inl l ↦ elim k [ inl m ↦ inl (omega arith) | inr q ↦ inl (omega (arith, q.0)) ]
  | inr p ↦ elim k [
    | inl m ↦ inl (omega (arith, p.0))
    | inr q ↦ inr (
      p.0 ∙ q.0,
      elim p.1 [
        | inl l ↦ elim q.1 [ inl m ↦ inl (omega arith) | inr m ↦ inl (omega (arith, m.0)) ]
        | inr l ↦ elim q.1 [ inl m ↦ inl (omega (arith, l.0)) | inr m ↦ inr (l.0 ∙ m.0, omega (arith, l.1, m.1)) ]
      ],
    )
  ]
]

-- of two different numbers one comes before the other, whatever stands before them
Less-total : (a b r s v w : ℕ) → v ≢ w → Less a b r s v w ⊎ Less b a s r w v
Less-total a b r s v w ne = elim (cases_order a b) [
  | inl e ↦ elim (cases_order r s) [
    | inl f ↦ elim (cases_order v w) [
      | inl g ↦ absurd (ne g)
      | inr o ↦ elim o [ inl l ↦ inl (inr (e, inr (f, l))) | inr l ↦ inr (inr (sym e, inr (sym f, l))) ]
    ]
    | inr o ↦ elim o [ inl l ↦ inl (inr (e, inl l)) | inr l ↦ inr (inr (sym e, inl l)) ]
  ]
  | inr o ↦ elim o [ inl l ↦ inl (inl l) | inr l ↦ inr (inl l) ]
]

-- who comes behind has the greater first number, or the same and no lesser second one
less-left : (a b r s v w : ℕ) → Less a b r s v w → (ltb a b || (eqb a b && leb r s)) ≡ true
less-left a b r s v w h = elim h [
  | inl l ↦ or_left (ltb a b) _ (lt-ltb a b l)
  | inr p ↦ or_right (ltb a b) _ (and_from _ _ (eq-eqb a b p.0) (le-leb r s (elim p.1 [ inl l ↦ omega arith | inr q ↦ omega (arith, q.0) ])))
]

-- nothing comes before itself
Less-self : (a r v : ℕ) → Less a a r r v v → ⊥
Less-self a r v h = elim h [
  | inl l ↦ absurd (omega arith)
  | inr p ↦ elim p.1 [ inl l ↦ absurd (omega arith) | inr q ↦ absurd (omega (arith, q.1)) ]
]

module _ (core rank : List ℕ) where
  -- when a key is less than another
  abbrev pub Precedes : ℕ → ℕ → Type 0
  Precedes v w = Less (get_or core v 0) (get_or core w 0) (get_or rank v 0) (get_or rank w 0) v w

  pub has_lesser_key-true : (v w : ℕ) → has_lesser_key core rank v w ≡ true → Precedes v w
  has_lesser_key-true v w h = less-true _ _ _ _ v w h

  pub has_lesser_key-from : (v w : ℕ) → Precedes v w → has_lesser_key core rank v w ≡ true
  has_lesser_key-from v w h = less-from _ _ _ _ v w h

  -- no key is less than itself
  pub has_lesser_key-self : (v : ℕ) → has_lesser_key core rank v v ≡ false
  has_lesser_key-self v = false_from_ne_true _ (λ h. Less-self _ _ v (has_lesser_key-true v v h))

  -- keys are compared in steps
  pub has_lesser_key-trans : (u v w : ℕ) → has_lesser_key core rank u v ≡ true → has_lesser_key core rank v w ≡ true → has_lesser_key core rank u w ≡ true
  has_lesser_key-trans u v w h k = has_lesser_key-from u w (Less-trans _ _ _ _ _ _ u v w (has_lesser_key-true u v h) (has_lesser_key-true v w k))

  -- of two vertices one has the lesser key
  pub has_lesser_key-total : (v w : ℕ) → v ≢ w → (has_lesser_key core rank v w ≡ true) ⊎ (has_lesser_key core rank w v ≡ true)
  has_lesser_key-total v w ne = elim (Less-total (get_or core v 0) (get_or core w 0) (get_or rank v 0) (get_or rank w 0) v w ne) [
    | inl h ↦ inl (has_lesser_key-from v w h)
    | inr h ↦ inr (has_lesser_key-from w v h)
  ]

  -- and not both
  pub has_lesser_key-once : (v w : ℕ) → has_lesser_key core rank v w ≡ true → has_lesser_key core rank w v ≡ false
  has_lesser_key-once v w h = false_from_ne_true _ (λ k. true≢false' (has_lesser_key-trans v w v h k) (has_lesser_key-self v)) where
    true≢false' : {b : Bool} → b ≡ true → b ≡ false → ⊥
    true≢false' p q = grind arith

  -- who has the lesser key has no greater core number
  pub has_lesser_key-core : (v w : ℕ) → has_lesser_key core rank v w ≡ true → get_or core v 0 ≤ get_or core w 0
  has_lesser_key-core v w h = elim (has_lesser_key-true v w h) [ inl l ↦ omega arith | inr p ↦ omega (arith, p.0) ]

  -- who has the greater key is left at the step in which the other is taken
  pub has_lesser_key-left : (v w : ℕ) → has_lesser_key core rank v w ≡ true → is_left_at core rank (get_or core v 0) (get_or rank v 0) w ≡ true
  has_lesser_key-left v w h = less-left (get_or core v 0) (get_or core w 0) (get_or rank v 0) (get_or rank w 0) v w (has_lesser_key-true v w h)

  module _ (names : List ℕ) where
    -- when `v` stands before `w`
    abbrev Stands : ℕ → ℕ → Type 0
    Stands v w = Less (get_or core v 0) (get_or core w 0) (get_or rank v 0) (get_or rank w 0) (get_or names v 0) (get_or names w 0)

    stands_before-true : (v w : ℕ) → stands_before core rank names v w ≡ true → Stands v w
    stands_before-true v w h =
        less-true (get_or core v 0) (get_or core w 0) (get_or rank v 0) (get_or rank w 0) (get_or names v 0) (get_or names w 0) h

    stands_before-from : (v w : ℕ) → Stands v w → stands_before core rank names v w ≡ true
    stands_before-from v w h =
        less-from (get_or core v 0) (get_or core w 0) (get_or rank v 0) (get_or rank w 0) (get_or names v 0) (get_or names w 0) h

    -- who stands behind is left at the step in which the one before is taken
    pub stands_before-left : (v w : ℕ) → stands_before core rank names v w ≡ true
        → is_left_at core rank (get_or core v 0) (get_or rank v 0) w ≡ true
    stands_before-left v w h =
        less-left (get_or core v 0) (get_or core w 0) (get_or rank v 0) (get_or rank w 0) (get_or names v 0) (get_or names w 0) (stands_before-true v w h)

    -- the order by core number, rank and name is compared in steps
    pub stands_before-trans : (u v w : ℕ) → stands_before core rank names u v ≡ true → stands_before core rank names v w ≡ true
        → stands_before core rank names u w ≡ true
    stands_before-trans u v w h k = stands_before-from u w
        (Less-trans (get_or core u 0) (get_or core v 0) (get_or core w 0) (get_or rank u 0) (get_or rank v 0) (get_or rank w 0) (get_or names u 0)
        (get_or names v 0) (get_or names w 0) (stands_before-true u v h) (stands_before-true v w k))

    -- of two vertices with different names one stands before the other
    pub stands_before-total : (v w : ℕ) → get_or names v 0 ≢ get_or names w 0
        → (stands_before core rank names v w ≡ true) ⊎ (stands_before core rank names w v ≡ true)
    stands_before-total v w ne =
        let either : Stands v w ⊎ Stands w v =
        Less-total (get_or core v 0) (get_or core w 0) (get_or rank v 0) (get_or rank w 0) (get_or names v 0) (get_or names w 0) ne in
        elim either [ inl h ↦ inl (stands_before-from v w h) | inr h ↦ inr (stands_before-from w v h) ]

    -- and not both
    pub stands_before-once : (v w : ℕ) → stands_before core rank names v w ≡ true → stands_before core rank names w v ≡ false
    stands_before-once v w h = false_from_ne_true _ (λ k.
        Less-self (get_or core v 0) (get_or rank v 0) (get_or names v 0) (stands_before-true v v (stands_before-trans v w v h k)))
