-- Lists that differ at few vertices.
use Rattle.std.proofs.Common.{◌≡◌, ℕ, ◌≤◌, cond, List, [], ◌∷◌, length, refl, ap, sym, ◌∙◌, arith, inl, inr, get_or, set, eqb}
use Rattle.std.specs.Prelude.{Result, Ok, Err, MatchResult, OnOk}
use Rattle.std.specs.List.{list_any}
use Rattle.std.proofs.lemmas.Bool.{cases_eq, cases_lt, lt-ltb, le-ltb, ne_eqb, or_from}
use Rattle.std.proofs.lemmas.List.{ext_get_or, get_or-set_same, get_or-set_other, length-set}
use Rattle.kc_snapshot.specs.Histories.{DifferAmong, changed, numbers_at}

-- the new number of a vertex is written: the others are left
differ-next : (v : ℕ) (vs old new : List ℕ) → length old ≡ length new → DifferAmong (v ∷ vs) old new → DifferAmong vs (set old v (get_or new v 0)) new
differ-next v vs old new same differ w l none = elim (cases_eq w v) [
  | inl e ↦
      ap (λ k. get_or (set old v (get_or new v 0)) k 0) e
      ∙ get_or-set_same old v (get_or new v 0) 0 (omega (arith, l, same, e))
      ∙ ap (λ k. get_or new k 0) (sym e)
  | inr ne ↦
      get_or-set_other old v w (get_or new v 0) 0 ne
      ∙ differ w l (or_from (eqb w v) (list_any (eqb w) vs) (ne_eqb w v ne) none)
]

-- a number that names no vertex: the others are left
differ-past : (v : ℕ) (vs old new : List ℕ) → length new ≤ v → DifferAmong (v ∷ vs) old new → DifferAmong vs old new
differ-past v vs old new le differ w l none =
    differ w l (or_from (eqb w v) (list_any (eqb w) vs) (ne_eqb w v (λ e. absurd (omega (arith, e, l, le)))) none)

-- where no vertex but these has a new number, the new numbers of these give the new list
pub changed-among : (vertices old new : List ℕ) → length old ≡ length new → DifferAmong vertices old new → changed old (numbers_at new vertices) ≡ new
changed-among [] old new same differ = ext_get_or 0 old new same (λ v l. differ v (omega (arith, same, l)) refl)
changed-among (v ∷ vs) old new same differ = elim (cases_lt v (length new)) [
  | inl l ↦
      ap (λ b. changed old (cond b (record { at = v; core = get_or new v 0 } ∷ numbers_at new vs) (numbers_at new vs))) (lt-ltb v (length new) l)
      ∙ changed-among vs (set old v (get_or new v 0)) new (length-set old v (get_or new v 0) ∙ same) (differ-next v vs old new same differ)
  | inr le ↦
      ap (λ b. changed old (cond b (record { at = v; core = get_or new v 0 } ∷ numbers_at new vs) (numbers_at new vs))) (le-ltb v (length new) le)
      ∙ changed-among vs old new same (differ-past v vs old new le differ)
]

-- what holds of each good answer holds where there is one
pub on_ok : {A E Q : Type 0} (P : A → Type 0) (B : E → Type 0) (r : Result A E) → MatchResult r P B → ((a : A) → P a → Q) → OnOk r Q
on_ok P B (Ok a) m f = f a m
on_ok P B (Err e) m f = tt
