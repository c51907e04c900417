-- How a text is handed on, one piece after another.
use Rattle.std.proofs.Common.{◌≡◌, ◌≢◌, ◌<◌, ◌∙◌, ◌++◌, ℕ, Err, IfSome, List, Ok, [], ◌∷◌, Option, Result, ap, append-nil, append_assoc, arith}
use Rattle.std.proofs.Common.{length, subst, sym}
use Rattle.std.specs.Result.{IsErrAnd}
use Rattle.std.specs.Io.KnownBytes.{Consumes, IsAtEnd}
use Rattle.std.proofs.KnownBytes.{Consumes-all, Consumes-trans}
use Rattle.kc_text.specs.Lines.{EndsLine}
use Rattle.kc_text.proofs.SaidAppend.{ends-append, ends-behind}
use Rattle.kc_claims.specs.Feeding.{HasFed}

module _ {T : Type 0} (taken : T → T → List ℕ → Type 0) where
  -- more bytes are carried
  pub HasFed-carry : (start now : T) (carry text rest : List ℕ) → HasFed taken start now carry text → HasFed taken start now (carry ++ rest) (text ++ rest)
  HasFed-carry start now carry text rest f = record {
    done = f.done;
    parts = ap (λ (t : List ℕ). t ++ rest) f.parts ∙ append_assoc f.done carry rest;
    ended = f.ended;
    took = f.took;
  }

  -- where no bytes come, nothing is handed on
  pub HasFed-none : (start now : T) (carry text none : List ℕ) → length none ≡ 0 → HasFed taken start now carry text
      → HasFed taken start now carry (text ++ none)
  HasFed-none start now carry text [] e f = subst (HasFed taken start now carry) (sym (append-nil text)) f
  HasFed-none start now carry text (x ∷ xs) e f = absurd (omega arith)

  -- whole lines are taken with what was carried, and then nothing is
  pub HasFed-whole : (start old now : T) (carry text whole lines none : List ℕ) → EndsLine whole → 0 < length whole → length none ≡ 0
      → lines ≡ carry ++ whole → HasFed taken start old carry text
      → ((start : T) (before : List ℕ) → EndsLine before → taken start old before → taken start now (before ++ lines))
      → HasFed taken start now none (text ++ whole)
  HasFed-whole start old now carry text whole lines none ended some e is f take = record {
    done = f.done ++ (carry ++ whole);
    parts = ap (λ (t : List ℕ). t ++ whole) f.parts ∙ append_assoc f.done carry whole ∙ sym (nothing (f.done ++ (carry ++ whole)) none e);
    ended = ends-append f.done (carry ++ whole) f.ended (ends-behind carry whole ended some);
    took = subst (λ (t : List ℕ). taken start now (f.done ++ t)) is (take start f.done f.ended f.took);
  } where
    nothing : (xs none : List ℕ) → length none ≡ 0 → xs ++ none ≡ xs
    nothing xs [] e = append-nil xs
    nothing xs (y ∷ ys) e = absurd (omega arith)

  -- whole lines are taken where nothing was carried
  pub HasFed-alone : (start old now : T) (carry text whole : List ℕ) → EndsLine whole → length carry ≡ 0 → HasFed taken start old carry text
      → ((start : T) (before : List ℕ) → EndsLine before → taken start old before → taken start now (before ++ whole))
      → HasFed taken start now carry (text ++ whole)
  HasFed-alone start old now [] text whole ended e f take = record {
    done = f.done ++ whole;
    parts = ap (λ (t : List ℕ). t ++ whole) (f.parts ∙ append-nil f.done) ∙ sym (append-nil (f.done ++ whole));
    ended = ends-append f.done whole f.ended ended;
    took = take start f.done f.ended f.took;
  }
  HasFed-alone start old now (x ∷ xs) text whole ended e f take = absurd (omega arith)

-- where the last piece has no bytes and none is left, all that is known was given
pub given-whole : (known between after : Option (List ℕ)) (text piece : List ℕ) → length piece ≡ 0 → Consumes known between text
    → Consumes between after piece → IsAtEnd after → IfSome known (λ all. text ≡ all)
given-whole known between after text [] e took more end =
    Consumes-all known after (text ++ []) [] text (Consumes-trans known between after text [] took more) end (sym (append-nil text))
given-whole known between after text (x ∷ xs) e took more end = absurd (omega arith)

-- where the last piece has no bytes, the same text was handed on
pub HasFed-shorter : {T : Type 0} (taken : T → T → List ℕ → Type 0) (start now : T) (carry text none : List ℕ) → length none ≡ 0
    → HasFed taken start now carry (text ++ none) → HasFed taken start now carry text
HasFed-shorter taken start now carry text [] e f = subst (HasFed taken start now carry) (append-nil text) f
HasFed-shorter taken start now carry text (x ∷ xs) e f = absurd (omega arith)

-- an error that was handed on is the one that there was
pub passed-err : {T U E : Type 0} (r : Result U E) (x y : E) → IsErrAnd r (λ e. e ≡ x) → r ≡ Err y → ◌≡◌ {A = Result T E} (Err x) (Err y)
passed-err (Ok u) x y is of = absurd is
passed-err (Err e) x y is of = let p : x ≡ y = cc in ap Err p

-- an error that was handed on is another one than there was not
pub passed-other : {T U E : Type 0} (r : Result U E) (x y : E) → IsErrAnd r (λ e. e ≡ x) → r ≢ Err y → ◌≢◌ {A = Result T E} (Err x) (Err y)
passed-other (Ok u) x y is other = absurd is
passed-other (Err e) x y is other = λ same. other (let p : e ≡ y = cc in ap Err p)
