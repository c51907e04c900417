-- What is printed is read again: numbers as decimals, with a space between them, each line with a newline at its end.
use Rattle.std.proofs.Common.{◌≡◌, ◌≤◌, ◌<◌, ◌+◌, ◌-◌, ◌*◌, ◌/◌, ◌%◌, ◌^◌, ℕ, Bool, true, List, [], ◌∷◌, ◌++◌, length, map, codes, refl, sym, ap, ◌∙◌}
use Rattle.std.proofs.Common.{arith, Ok, length-append, append_assoc}
use Rattle.std.specs.Fmt.{decimal}
use Rattle.std.specs.List.{list_all}
use Rattle.std.proofs.lemmas.Bool.{and_from, le-leb}
use Rattle.std.proofs.lemmas.Fmt.{decimal_by_steps}
use Rattle.std.proofs.lemmas.List.Folds.{list_all-append}
use Rattle.std.proofs.lemmas.List.Sums.{fold-append}
use Rattle.kc_text.specs.declared.line.TextLine.TheVariants as said
use Rattle.kc_text.specs.Forms.{all_said, is_digit, number, said_by, value}
use Rattle.kc_text.specs.Plain.{BeginsWithPair, sign_of}
use Rattle.kc_text.proofs.LineCuts.{lines-cut}
use Rattle.kc_text.proofs.PlainLines.{number-is, said-change, said-edge}

-- digits that are read as a number
record ReadAs (n : ℕ) (digits : List ℕ) : Type 0 where
  all : list_all is_digit digits ≡ true
  some : 0 < length digits
  reads : value digits ≡ n

-- the digit of a number below ten is read as it
one_digit : (n : ℕ) → n < 10 → ReadAs n ((48 + n) ∷ [])
one_digit n l = record { all = digit (48 + n) (omega arith) (omega arith); some = omega arith; reads = omega arith }
  where
    digit : (b : ℕ) → 48 ≤ b → b ≤ 57 → list_all is_digit (b ∷ []) ≡ true
    digit b low high = and_from _ _ (and_from _ _ (le-leb 48 b low) (le-leb b 57 high)) refl

-- the digits of a tenth, with the last digit behind them, are read as the number
more_digits : (n : ℕ) (digits : List ℕ) → 10 ≤ n → ReadAs (n / 10) digits → ReadAs n (digits ++ (48 + n % 10) ∷ [])
more_digits n digits l front = record {
  all = list_all-append is_digit digits ((48 + n % 10) ∷ []) ∙ and_from _ _ front.all (one_digit (n % 10) (omega arith)).all;
  some = omega (arith, length-append digits ((48 + n % 10) ∷ []));
  reads = fold-append (λ (v b : ℕ). 10 * v + (b - 48)) 0 digits ((48 + n % 10) ∷ []) ∙ ap (λ v. 10 * v + (48 + n % 10 - 48)) front.reads ∙ omega arith;
}

-- a printed number is read as the number
pub number-decimal : (n : ℕ) → n < 2 ^ 32 → number (decimal n) ≡ Ok n
number-decimal n l =
    let d = decimal_by_steps ReadAs one_digit more_digits n (omega arith) in
    number-is (decimal n) n d.all d.some (sym d.reads) (omega arith)

-- two numbers, with a space between them
abbrev pub pair : ℕ → ℕ → List ℕ
pair a b = decimal a ++ 32 ∷ decimal b

-- a printed pair with a newline behind it is a plain pair
pair-begins : (a b : ℕ) (rest : List ℕ) → a < 2 ^ 32 → b < 2 ^ 32 → BeginsWithPair (pair a b ++ 10 ∷ rest) a b rest
pair-begins a b rest la lb = record {
  first = decimal a;
  blank = 32;
  second = decimal b;
  whole = append_assoc (decimal a) (32 ∷ decimal b) (10 ∷ rest);
  parted = refl;
  spells_a = number-decimal a la;
  spells_b = number-decimal b lb;
}

-- a printed edge line, and what the lines behind it say
pub said-edge_line : (a b : ℕ) (rest : List ℕ) → a < 2 ^ 32 → b < 2 ^ 32 → all_said (pair a b ++ 10 ∷ rest) ≡ said.Edge a b ∷ all_said rest
said-edge_line a b rest la lb = said-edge (pair a b ++ 10 ∷ rest) a b rest (pair-begins a b rest la lb)

-- a printed add or remove line, and what the lines behind it say
pub said-change_line : (add : Bool) (a b : ℕ) (rest : List ℕ) → a < 2 ^ 32 → b < 2 ^ 32
    → all_said ((sign_of add ∷ 32 ∷ pair a b) ++ 10 ∷ rest) ≡ said.Change (record { add = add; a = a; b = b }) ∷ all_said rest
said-change_line add a b rest la lb =
    said-change ((sign_of add ∷ 32 ∷ pair a b) ++ 10 ∷ rest) add 32 (pair a b ++ 10 ∷ rest) a b rest refl refl (pair-begins a b rest la lb)

-- a line `batch`, and what the lines behind it say
pub said-batch_line : (rest : List ℕ) → all_said (codes "batch" ++ 10 ∷ rest) ≡ said.Batch ∷ all_said rest
said-batch_line rest = ap (map said_by) (lines-cut (codes "batch" ++ 10 ∷ rest) (omega arith))
