-- The first bytes of a text, and those behind them.
use Rattle.std.proofs.Common.{◌≡◌, ◌≤◌, ◌++◌, ◌∙◌, ◌⊎◌, ℕ, zero, suc, Bool, true, false, List, [], ◌∷◌, Option, None, Some, Result, IfOk, Ok, Err, ap}
use Rattle.std.proofs.Common.{append-nil, arith, cond, drop, inl, inr, length, refl, sym, take, take-append-drop}
use Rattle.std.specs.Io.KnownBytes.{Consumes, IsAtEnd}
use Rattle.std.specs.Prelude.{◌==◌, ◌&&◌}
use Rattle.kc_dialect.specs.Dialects.{without_mark}
use Rattle.kc_head.specs.Heads.{IsFrontOf, IsHeadOf, behind_head, head_of}
use Rattle.kc_head.specs.declared.head.TheConstants.{HEAD_BYTES}

-- what was read is all that there was, or as much as was asked for
front-of : (most : ℕ) (front rest : List ℕ) → length front ≤ most → (rest ≡ []) ⊎ (length front ≡ most)
    → (front ≡ take most (front ++ rest)) × (rest ≡ drop most (front ++ rest))
front-of zero [] rest fits whole = (refl, refl)
front-of zero (b ∷ front) rest fits whole = absurd (omega (arith, fits))
front-of (suc n) [] rest fits (inl none) = (ap (λ (l : List ℕ). take (suc n) l) (sym none), none ∙ ap (λ (l : List ℕ). drop (suc n) l) (sym none))
front-of (suc n) [] rest fits (inr full) = absurd (omega (arith, full))
front-of (suc n) (b ∷ front) rest fits whole =
    let more = front-of n front rest (omega (arith, fits)) (less whole) in (ap (λ (l : List ℕ). b ∷ l) more.0, more.1)
  where
    less : (rest ≡ []) ⊎ (suc (length front) ≡ suc n) → (rest ≡ []) ⊎ (length front ≡ n)
    less (inl none) = inl none
    less (inr full) = inr (omega (arith, full))

-- the bytes that a source gave are the first of what it had, where it is at its end or they are as many as were asked for
pub IsFrontOf-given : (most : ℕ) (before after : Option (List ℕ)) (front : List ℕ) → Consumes before after front → length front ≤ most
    → IsAtEnd after ⊎ (length front ≡ most) → IsFrontOf most before after front
IsFrontOf-given most None after front took fits whole = tt
IsFrontOf-given most (Some all) None front took fits whole = absurd took
IsFrontOf-given most (Some all) (Some rest) front took fits whole =
    let here = front-of most front rest fits whole in (
      here.0 ∙ ap (λ (l : List ℕ). take most l) (sym took),
      ap (λ (l : List ℕ). Some l) (here.1 ∙ ap (λ (l : List ℕ). drop most l) (sym took)),
    )

-- the first bytes that a head has are a head
pub IsHeadOf-front : (before after : Option (List ℕ)) (head : List ℕ) → IsFrontOf HEAD_BYTES before after head → IsHeadOf before after head
unfolding head_of behind_head
IsHeadOf-front before after head h = h

-- the same of what was read
pub IfOk-head : {E : Type 0} {V : Type 0} (items : V → List ℕ) (r : Result V E) (before after : Option (List ℕ))
    → IfOk r (λ v. IsFrontOf HEAD_BYTES before after (items v)) → IfOk r (λ v. IsHeadOf before after (items v))
IfOk-head items (Ok v) before after h = IsHeadOf-front before after (items v) h
IfOk-head items (Err e) before after h = tt

-- a head and what is behind it are the text
pub head-cut : (all : List ℕ) → head_of all ++ behind_head all ≡ all
unfolding head_of behind_head
head-cut all = take-append-drop HEAD_BYTES all

-- a choice of two lists with a third behind it
chosen : (t : Bool) (a b c : ℕ) (front rest all : List ℕ) → front ++ rest ≡ all
    → cond t front (a ∷ b ∷ c ∷ front) ++ rest ≡ cond t all (a ∷ b ∷ c ∷ all)
chosen true a b c front rest all e = e
chosen false a b c front rest all e = ap (λ (l : List ℕ). a ∷ b ∷ c ∷ l) e

-- a mark stands in the first bytes, if there is one
mark-cut_at : (n : ℕ) (all : List ℕ) → 3 ≤ n → without_mark (take n all) ++ drop n all ≡ without_mark all
mark-cut_at zero all h = absurd (omega (arith, h))
mark-cut_at (suc zero) all h = absurd (omega (arith, h))
mark-cut_at (suc (suc zero)) all h = absurd (omega (arith, h))
mark-cut_at (suc (suc (suc m))) [] h = refl
mark-cut_at (suc (suc (suc m))) (a ∷ []) h = append-nil (without_mark (a ∷ []))
mark-cut_at (suc (suc (suc m))) (a ∷ b ∷ []) h = append-nil (without_mark (a ∷ b ∷ []))
mark-cut_at (suc (suc (suc m))) (a ∷ b ∷ c ∷ rest) h =
    chosen (a == 239 && (b == 187 && c == 191)) a b c (take m rest) (drop m rest) rest (take-append-drop m rest)

-- a head without a mark and what is behind it are the text without the mark
pub mark-cut : (all : List ℕ) → without_mark (head_of all) ++ behind_head all ≡ without_mark all
unfolding head_of behind_head
mark-cut all = mark-cut_at HEAD_BYTES all (omega arith)
