-- Lists of arcs to which one more is added, and the entries that stand for arcs.
use Rattle.std.proofs.Common.{◌≡◌, ◌⊎◌, ℕ, true, false, ◌&&◌, List, [], ◌∷◌, ◌++◌, eqb, ltb, map, refl, sym, ap, ◌∙◌, inl, inr}
use Rattle.std.proofs.Common.{true≢false}
use Rattle.std.proofs.lemmas.Bool.{cases_Bool, and_from, and_parts, eq-eqb, eqb-true, false≢true, false_from_ne_true, or_cases, or_left, or_parts, or_right}
use Rattle.std.proofs.lemmas.List.{map-append}
use Rattle.kc_table.specs.declared.entry.Entry.{Entry}
use Rattle.kc_topo.specs.Arcs.{StandOnce, arc_of, entry_of, has_arc}

-- where an arc is among some and a new one, it is one of these, or the new one
pub arc-push_cases : (arcs : List (ℕ × ℕ)) (a b x y : ℕ) → has_arc (arcs ++ (a, b) ∷ []) x y ≡ true → (has_arc arcs x y ≡ true) ⊎ ((x ≡ a) × (y ≡ b))
arc-push_cases [] a b x y h = elim (or_cases (eqb x a && eqb y b) false h) [
  | inl e ↦ (let p = and_parts (eqb x a) (eqb y b) e in inr (eqb-true x a p.0, eqb-true y b p.1))
  | inr none ↦ absurd (false≢true none)
]
arc-push_cases (arc ∷ arcs) a b x y h = elim (or_cases (eqb x arc.0 && eqb y arc.1) (has_arc (arcs ++ (a, b) ∷ []) x y) h) [
  | inl e ↦ inl (or_left (eqb x arc.0 && eqb y arc.1) (has_arc arcs x y) e)
  | inr k ↦ elim (arc-push_cases arcs a b x y k) [
    | inl old ↦ inl (or_right (eqb x arc.0 && eqb y arc.1) (has_arc arcs x y) old)
    | inr new ↦ inr new
  ]
]

-- an arc that is among some is among these and a new one
pub arc-push_old : (arcs : List (ℕ × ℕ)) (a b x y : ℕ) → has_arc arcs x y ≡ true → has_arc (arcs ++ (a, b) ∷ []) x y ≡ true
arc-push_old [] a b x y h = absurd (false≢true h)
arc-push_old (arc ∷ arcs) a b x y h = elim (or_cases (eqb x arc.0 && eqb y arc.1) (has_arc arcs x y) h) [
  | inl e ↦ or_left (eqb x arc.0 && eqb y arc.1) (has_arc (arcs ++ (a, b) ∷ []) x y) e
  | inr k ↦ or_right (eqb x arc.0 && eqb y arc.1) (has_arc (arcs ++ (a, b) ∷ []) x y) (arc-push_old arcs a b x y k)
]

-- a new arc is among the arcs to which it is added
pub arc-push_new : (arcs : List (ℕ × ℕ)) (a b : ℕ) → has_arc (arcs ++ (a, b) ∷ []) a b ≡ true
arc-push_new [] a b = or_left (eqb a a && eqb b b) false (and_from (eqb a a) (eqb b b) (eq-eqb a a refl) (eq-eqb b b refl))
arc-push_new (arc ∷ arcs) a b = or_right (eqb a arc.0 && eqb b arc.1) (has_arc (arcs ++ (a, b) ∷ []) a b) (arc-push_new arcs a b)

-- where no arc stands twice, none does after a new one is added
pub once-push : (arcs : List (ℕ × ℕ)) (a b : ℕ) → StandOnce arcs → has_arc arcs a b ≡ false → StandOnce (arcs ++ (a, b) ∷ [])
once-push [] a b once fresh = (refl, tt)
once-push (arc ∷ arcs) a b once fresh =
    let p = or_parts (eqb a arc.0 && eqb b arc.1) (has_arc arcs a b) fresh in (
      false_from_ne_true (has_arc (arcs ++ (a, b) ∷ []) arc.0 arc.1) (λ h. elim (arc-push_cases arcs a b arc.0 arc.1 h) [
        | inl old ↦ true≢false (sym old ∙ once.0)
        | inr new ↦ true≢false (sym (and_from (eqb a arc.0) (eqb b arc.1) (eq-eqb a arc.0 (sym new.0)) (eq-eqb b arc.1 (sym new.1))) ∙ p.0)
      ]),
      once-push arcs a b once.1 p.1,
    )

-- the entry of an arc stands for it
pub arc-of_entry : (a b : ℕ) → arc_of (entry_of a b) ≡ (a, b)
arc-of_entry a b = elim (cases_Bool (ltb a b)) [ inl t ↦ rw t refl | inr f ↦ rw f refl ]

-- the entry of an arc behind others stands for that arc behind theirs
pub arcs-push : (entries : List Entry) (a b : ℕ) → map arc_of (entries ++ entry_of a b ∷ []) ≡ map arc_of entries ++ (a, b) ∷ []
arcs-push entries a b = map-append arc_of entries (entry_of a b ∷ []) ∙ ap (λ (arc : ℕ × ℕ). map arc_of entries ++ arc ∷ []) (arc-of_entry a b)
