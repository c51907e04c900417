-- The plain form of a line's numbers: few digits, one blank between two numbers, and a newline behind them.
use Rattle.std.specs.Prelude.{◌≡◌, ◌∷◌, ◌++◌, ℕ, Bool, true, List, Ok, if◌then◌else◌}
use Rattle.kc_text.specs.Forms.{number}
use Rattle.kc_text.specs.Lines.{is_blank}

-- the bytes begin with the digits of a number, and the rest follows
pub record BeginsWithNumber (bytes : List ℕ) (value : ℕ) (rest : List ℕ) : Type 0 where
  pub digits : List ℕ
  pub whole : bytes ≡ digits ++ rest
  pub spells : number digits ≡ Ok value

-- the first line of the bytes is two numbers, and the rest follows
pub record BeginsWithPair (bytes : List ℕ) (a b : ℕ) (rest : List ℕ) : Type 0 where
  pub first : List ℕ
  pub blank : ℕ
  pub second : List ℕ
  pub whole : bytes ≡ first ++ (blank ∷ (second ++ (10 ∷ rest)))
  pub parted : is_blank blank ≡ true
  pub spells_a : number first ≡ Ok a
  pub spells_b : number second ≡ Ok b

-- the byte that begins an addition, or a removal
abbrev pub sign_of : Bool → ℕ
sign_of add = if add then 43 else 45
