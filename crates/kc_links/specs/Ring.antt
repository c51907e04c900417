-- A list kept as a ring through one more number, its size.
use Rattle.std.specs.Prelude.{◌≡◌, ℕ, zero, suc, ◌+◌, ◌<◌, ◌^◌, List, [], ◌∷◌, ◌++◌, length, slice_index, true}
use Rattle.kc_lists.specs.Lists.{member, Distinct, Follows}

-- the list that a ring holds, and its size, which is the number that closes the ring
pub record Chain : Type 0 where
  pub size : ℕ
  pub list : List ℕ

-- the first `n` numbers on the way from `at` along `next`
abbrev pub walk : ℕ → ℕ → List ℕ → List ℕ
walk zero at next = []
walk (suc n) at next = at ∷ walk n (slice_index next at) next

-- z stands right after y in the ring: `next` leads from y to z, and `prev` back
abbrev pub Link : List ℕ → List ℕ → ℕ → ℕ → Type 0
Link next prev y z = (slice_index next y ≡ z) × (slice_index prev z ≡ y)

-- the list has numbers below `size`, none twice; `next` and `prev` lead from `size` through it and back
pub record IsRing (next prev : List ℕ) (size : ℕ) (list : List ℕ) : Type 0 where
  pub next_length : length next ≡ size + 1
  pub prev_length : length prev ≡ size + 1
  pub small : size < 2 ^ 31
  pub distinct : Distinct list
  pub within : (x : ℕ) → member x list ≡ true → x < size
  pub path : Follows (Link next prev) size (list ++ size ∷ [])
