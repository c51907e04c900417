-- Numbers that are printed behind one another are told from one another.
use Rattle.std.proofs.Common.{◌≡◌, ◌<◌, ◌^◌, ◌%◌, ◌+◌, ◌++◌, ◌∙◌, ℕ, true, false, List, [], ◌∷◌, decimal, ap, append_assoc, arith, refl, sym}
use Rattle.std.specs.List.{list_all}
use Rattle.std.proofs.lemmas.Bool.{and_from, and_parts, le-leb, true≢false}
use Rattle.std.proofs.lemmas.Fmt.{decimal_by_steps, decimal_injective}
use Rattle.std.proofs.lemmas.List.Folds.{list_all-append}
use Rattle.kc_text.specs.Forms.{is_digit}
use Rattle.kc_state.specs.Texts.{ended_by, pair_text, named_line}

-- all bytes are digits
record AreDigits (ds : List ℕ) : Type 0 where
  all : list_all is_digit ds ≡ true

-- the digit of a number below ten is one
one_digit : (n : ℕ) → n < 10 → AreDigits ((48 + n) ∷ [])
one_digit n l = record { all = and_from _ _ (and_from _ _ (le-leb 48 (48 + n) (omega arith)) (le-leb (48 + n) 57 (omega arith))) refl }

-- a printed number has digits only
pub decimal-digits : (n : ℕ) → n < 2 ^ 64 → list_all is_digit (decimal n) ≡ true
decimal-digits n l =
    let d : AreDigits (decimal n) = decimal_by_steps (λ n ds. AreDigits ds) one_digit (λ n ds h front. record {
      all = list_all-append is_digit ds ((48 + n % 10) ∷ []) ∙ and_from _ _ front.all (one_digit (n % 10) (omega arith)).all;
    }) n l in
    d.all

-- digits end where the first byte stands that is none
pub digits-apart : (xs ys : List ℕ) (s t : ℕ) (x y : List ℕ) → list_all is_digit xs ≡ true → list_all is_digit ys ≡ true → is_digit s ≡ false
    → is_digit t ≡ false → xs ++ s ∷ x ≡ ys ++ t ∷ y → (xs ≡ ys) × (x ≡ y)
digits-apart [] [] s t x y dx dy ns nt e = (refl, cc)
digits-apart [] (d ∷ ys) s t x y dx dy ns nt e =
    let same : s ≡ d = cc in
    absurd (true≢false (sym (and_parts (is_digit d) (list_all is_digit ys) dy).0 ∙ ap is_digit (sym same) ∙ ns))
digits-apart (c ∷ xs) [] s t x y dx dy ns nt e =
    let same : c ≡ t = cc in
    absurd (true≢false (sym (and_parts (is_digit c) (list_all is_digit xs) dx).0 ∙ ap is_digit same ∙ nt))
digits-apart (c ∷ xs) (d ∷ ys) s t x y dx dy ns nt e =
    let rest : xs ++ s ∷ x ≡ ys ++ t ∷ y = cc in
    let first : c ≡ d = cc in
    let (front, behind) = digits-apart xs ys s t x y (and_parts (is_digit c) (list_all is_digit xs) dx).1
    (and_parts (is_digit d) (list_all is_digit ys) dy).1 ns nt rest in
    (cc, behind)

-- two printed numbers with a byte behind each that is no digit are told apart, whatever stands behind
pub number-apart : (byte m n : ℕ) (x y : List ℕ) → is_digit byte ≡ false → m < 2 ^ 64 → n < 2 ^ 64 → ended_by byte m ++ x ≡ ended_by byte n ++ y
    → (m ≡ n) × (x ≡ y)
number-apart byte m n x y none lm ln e =
    let (digits, behind) = digits-apart (decimal m) (decimal n) byte byte x y (decimal-digits m lm) (decimal-digits n ln) none none
    (sym (append_assoc (decimal m) (byte ∷ []) x) ∙ e ∙ append_assoc (decimal n) (byte ∷ []) y) in
    (decimal_injective m n lm ln digits, behind)

-- what stands behind a word is told
pub word-apart : (word x y : List ℕ) → word ++ x ≡ word ++ y → x ≡ y
word-apart [] x y e = e
word-apart (b ∷ word) x y e = let rest : word ++ x ≡ word ++ y = cc in word-apart word x y rest

-- two lines of a word and a number are told apart
pub line-apart : (word : List ℕ) (m n : ℕ) (x y : List ℕ) → m < 2 ^ 64 → n < 2 ^ 64 → named_line word m ++ x ≡ named_line word n ++ y → (m ≡ n) × (x ≡ y)
line-apart word m n x y lm ln e =
    number-apart 10 m n x y refl lm ln
    (word-apart word (ended_by 10 m ++ x) (ended_by 10 n ++ y)
    (sym (append_assoc word (ended_by 10 m) x) ∙ e ∙ append_assoc word (ended_by 10 n) y))

-- two pairs of numbers are told apart
pub pair-apart : (a b c d : ℕ) (x y : List ℕ) → a < 2 ^ 64 → b < 2 ^ 64 → c < 2 ^ 64 → d < 2 ^ 64 → pair_text a b ++ x ≡ pair_text c d ++ y
    → (a ≡ c) × (b ≡ d) × (x ≡ y)
pair-apart a b c d x y la lb lc ld e =
    let (first, behind) = number-apart 32 a c (ended_by 10 b ++ x) (ended_by 10 d ++ y) refl la lc
    (sym (append_assoc (ended_by 32 a) (ended_by 10 b) x) ∙ e ∙ append_assoc (ended_by 32 c) (ended_by 10 d) y) in
    let (second, rest) = number-apart 10 b d x y refl lb ld behind in
    (first, second, rest)
