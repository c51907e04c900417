-- The h-index of a list of numbers.
use Rattle.std.specs.Prelude.{◌≤◌, ℕ, zero, suc, List, length, count_by, nat_le, if◌then◌else◌}

-- how many of the numbers are at least `k`
abbrev pub how_many_reach : ℕ → List ℕ → ℕ
how_many_reach k numbers = count_by (nat_le k) numbers

-- `h` is the greatest `k` such that at least `k` of the numbers are at least `k`
pub record IsHIndex (numbers : List ℕ) (h : ℕ) : Type 0 where
  pub reached : h ≤ how_many_reach h numbers
  pub greatest : (k : ℕ) → k ≤ how_many_reach k numbers → k ≤ h

-- the greatest such `k` up to `limit`
abbrev pub h_index_up_to : List ℕ → ℕ → ℕ
h_index_up_to numbers zero = 0
h_index_up_to numbers (suc limit) = if nat_le (suc limit) (how_many_reach (suc limit) numbers) then suc limit else h_index_up_to numbers limit

-- the h-index of a list of numbers
abbrev pub h_index : List ℕ → ℕ
h_index numbers = h_index_up_to numbers (length numbers)
