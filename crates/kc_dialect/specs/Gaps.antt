-- The gaps between the numbers of a text: the bytes that are no digits.
use Rattle.std.specs.Prelude.{◌≡◌, ◌≤◌, ◌<◌, ◌+◌, ◌*◌, ◌/◌, ◌^◌, ℕ, Bool, not, List, [], ◌∷◌, length, take, drop, if◌then◌else◌}
use Rattle.kc_text.specs.Forms.{is_digit}
use Rattle.kc_dialect.specs.PlainRuns.{BeginsWithDigits}

-- a byte that is no digit
abbrev pub is_gap : ℕ → Bool
is_gap b = not (is_digit b)

-- the gaps among bytes as the bits of a number, the lowest for the first byte
abbrev pub gap_bits : List ℕ → ℕ
gap_bits [] = 0
gap_bits (b ∷ bytes) = (if is_gap b then 1 else 0) + 2 * gap_bits bytes

-- the bits tell the gaps among the first bytes, which are at most 64
pub record AreGaps (bytes : List ℕ) (gaps : ℕ) : Type 0 where
  pub n : ℕ
  pub few : n ≤ 64
  pub are : gaps ≡ gap_bits (take n bytes)

-- so many digits stand before the first gap, and the higher bits tell the gaps behind it
pub record EndsAtGap (bytes : List ℕ) (gaps n : ℕ) : Type 0 where
  pub digits : BeginsWithDigits bytes n (drop n bytes)
  pub within : n < length bytes
  pub behind : AreGaps (drop (n + 1) bytes) (gaps / 2 ^ (n + 1))
