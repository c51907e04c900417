-- The plain lines at the front of a text: two short numbers with one separator between them, and a newline behind them.
use Rattle.std.specs.Prelude.{◌≡◌, ◌≤◌, ◌<◌, ◌+◌, ℕ, Bool, false, true, List, [], ◌∷◌, ◌++◌, length, map, take, drop, if◌then◌else◌}
use Rattle.std.specs.List.{list_all}
use Rattle.kc_text.specs.Forms.{is_digit}
use Rattle.kc_text.specs.Lines.{lines}
use Rattle.kc_dialect.specs.declared.dialect.Dialect.{Dialect}
use Rattle.kc_dialect.specs.declared.dialect.Ids.TheVariants.{Numbers}
use Rattle.kc_dialect.specs.declared.dialect.Separator.{Separator}
use Rattle.kc_dialect.specs.Columns.{is_separator}
use Rattle.kc_dialect.specs.Dialects.{bad_lines_after, plain_lines}

-- digits, one at least and nine at most
pub record AreFewDigits (digits : List ℕ) : Type 0 where
  pub some : 0 < length digits
  pub few : length digits ≤ 9
  pub each : list_all is_digit digits ≡ true

-- the first line may be plain: it begins with a digit
abbrev pub may_be_plain : List ℕ → Bool
may_be_plain [] = false
may_be_plain (b ∷ bytes) = is_digit b

-- bytes begin with so many digits, and the rest follows
pub record BeginsWithDigits (bytes : List ℕ) (n : ℕ) (rest : List ℕ) : Type 0 where
  pub digits : List ℕ
  pub whole : bytes ≡ digits ++ rest
  pub len : n ≡ length digits
  pub are : AreFewDigits digits

-- bytes begin with a plain line, which has so many bytes with its end
pub record BeginsPlainly (separator : Separator) (bytes : List ℕ) (n : ℕ) : Type 0 where
  pub first : List ℕ
  pub part : ℕ
  pub second : List ℕ
  pub rest : List ℕ
  pub whole : bytes ≡ first ++ (part ∷ (second ++ (10 ∷ rest)))
  pub parted : is_separator separator part ≡ true
  pub are_first : AreFewDigits first
  pub are_second : AreFewDigits second
  pub len : n ≡ length first + length second + 2

-- a space in place of a separator, and else the byte
abbrev pub spaced : Separator → ℕ → ℕ
spaced separator b = if is_separator separator b then 32 else b

-- Bytes begin with so many plain lines, which have so many bytes: in each dialect of numbers in the first two columns their plain lines are these bytes
-- with spaces, and none of them is bad.
pub record BeginsWithRun (separator : Separator) (bytes : List ℕ) (n count : ℕ) : Type 0 where
  pub read : List (List ℕ)
  pub cut : lines bytes ≡ read ++ lines (drop n bytes)
  pub within : n ≤ length bytes
  pub counted : count ≡ length read
  pub fewer : count ≤ n
  pub says : (d : Dialect) (before : ℕ) → d.separator ≡ separator → d.columns ≡ (1, 2) → d.ids ≡ Numbers → d.skip ≤ before
      → (plain_lines d before read ≡ map (spaced separator) (take n bytes)) × (bad_lines_after d before read ≡ [])
