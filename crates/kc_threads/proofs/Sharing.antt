-- That a type's values may be shared among threads has at most one proof.
use mathlib.Core.HLevel.{×_prop, Unit-prop, Π_prop, ⊥_prop}
use base.Fml.{Fml, fsep, fand, for, fwand, fex, fall, fupd, fhide, fbor, fobor, flent, fshr_bor, finv, fnamed, ftok, fkid, fme}
use base.Shift.{Keyless}
use denote.RattleType.{RattleType}
use denote.Param.Send.{IsSync}

-- that a formula names no thread has at most one proof
keyless_prop : (P : Fml) → IsProp (Keyless P)
keyless_prop (fsep P Q) = ×_prop (keyless_prop P) (keyless_prop Q)
keyless_prop (fand P Q) = ×_prop (keyless_prop P) (keyless_prop Q)
keyless_prop (for P Q) = ×_prop (keyless_prop P) (keyless_prop Q)
keyless_prop (fwand P Q) = ×_prop (keyless_prop P) (keyless_prop Q)
keyless_prop (fex X F) = Π_prop λ x. keyless_prop (F x)
keyless_prop (fall X F) = Π_prop λ x. keyless_prop (F x)
keyless_prop (fupd P) = keyless_prop P
keyless_prop (fhide P) = keyless_prop P
keyless_prop (fbor κ P) = keyless_prop P
keyless_prop (fobor κ q P) = keyless_prop P
keyless_prop (flent κ P) = keyless_prop P
keyless_prop (fshr_bor κ Φ) = Π_prop λ q. keyless_prop (Φ q)
keyless_prop (finv P) = keyless_prop P
keyless_prop (fnamed nm P) = keyless_prop P
keyless_prop (ftok E) = ⊥_prop
keyless_prop (fkid h a) = ⊥_prop
keyless_prop (fme h) = ⊥_prop
keyless_prop _ = Unit-prop

-- that a type's values may be shared among threads has at most one proof
pub sync_prop : (R : RattleType) → IsProp (IsSync R)
sync_prop R = λ a b i. record {
  shared = λ x block offset. Π_prop (λ κ. keyless_prop (R.shr_at x block offset κ)) (a.shared x block offset) (b.shared x block offset) i;
}
