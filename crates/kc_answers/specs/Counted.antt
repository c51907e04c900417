-- The numbers that come, one after another, where it is counted how often each comes.
use Rattle.std.specs.Prelude.{ℕ, zero, suc, List, [], ◌∷◌, ◌++◌, nat_eq, if◌then◌else◌, slice_index}
use Rattle.kc_reply.specs.declared.level_size.LevelSize.{LevelSize}

-- a number that comes so often, and nothing for one that does not come
abbrev pub counted : ℕ → ℕ → List LevelSize
counted number count = if nat_eq count 0 then [] else (record { core = number; vertices = count }) ∷ []

-- those of the numbers below `n`, ascending
abbrev pub counted_below : List ℕ → ℕ → List LevelSize
counted_below counts zero = []
counted_below counts (suc n) = counted_below counts n ++ counted n (slice_index counts n)
