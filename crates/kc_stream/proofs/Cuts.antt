-- Where the lines of some bytes have ended.
use Rattle.std.proofs.Common.{◌≡◌, ℕ, true, cond, List, [], ◌∷◌, ◌++◌, length, drop, append-nil, refl, ap, ◌∙◌, arith, inl, inr}
use Rattle.std.specs.List.{list_any}
use Rattle.std.proofs.lemmas.Bool.{or_from, or_left, or_right}
use Rattle.std.proofs.lemmas.List.Folds.{list_any-append}
use Rattle.kc_text.specs.Lines.{EndsLine, is_newline}
use Rattle.kc_stream.specs.Ended.{IsOpen, ended}

-- of an open line no byte has come to an end
ended-open : (rest : List ℕ) → IsOpen rest → ended rest ≡ []
ended-open [] o = refl
ended-open (b ∷ rest) o = ap (λ t. cond t (b ∷ ended rest) []) o

-- bytes that end with a line have a newline
ends-newline : (b : ℕ) (bytes : List ℕ) → EndsLine (b ∷ bytes) → list_any is_newline (b ∷ bytes) ≡ true
ends-newline b bytes (inl none) = absurd (omega (arith, ap length none))
ends-newline b bytes (inr (front, is)) =
    ap (list_any is_newline) is ∙ list_any-append is_newline front (10 ∷ []) ∙ or_right (list_any is_newline front) true refl

-- so do those behind the first, or there are none
ends-tail : (b : ℕ) (bytes : List ℕ) → EndsLine (b ∷ bytes) → EndsLine bytes
ends-tail b bytes (inl none) = absurd (omega (arith, ap length none))
ends-tail b bytes (inr ([], is)) = inl (ap (drop 1) is)
ends-tail b bytes (inr (x ∷ front, is)) = inr (front, ap (drop 1) is)

-- Behind lines that have ended those of the rest follow.
pub ended-append : (done rest : List ℕ) → EndsLine done → ended (done ++ rest) ≡ done ++ ended rest
ended-append [] rest e = refl
ended-append (b ∷ done) rest e =
    let some : list_any is_newline ((b ∷ done) ++ rest) ≡ true =
    list_any-append is_newline (b ∷ done) rest ∙ or_left (list_any is_newline (b ∷ done)) (list_any is_newline rest) (ends-newline b done e) in
    ap (λ t. cond t (b ∷ ended (done ++ rest)) []) some ∙ ap (λ t. b ∷ t) (ended-append done rest (ends-tail b done e))

-- The lines that have ended are those before an open one.
pub ended-parts : (done rest : List ℕ) → EndsLine done → IsOpen rest → ended (done ++ rest) ≡ done
ended-parts done rest e o = ended-append done rest e ∙ ap (λ (t : List ℕ). done ++ t) (ended-open rest o) ∙ append-nil done

-- bytes of an open line and more of it
pub open-append : (xs ys : List ℕ) → IsOpen xs → IsOpen ys → IsOpen (xs ++ ys)
open-append xs ys o p = list_any-append is_newline xs ys ∙ or_from (list_any is_newline xs) (list_any is_newline ys) o p
