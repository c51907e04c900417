-- Core numbers and order with vertices more.
use Rattle.std.specs.Prelude.{ℕ, zero, suc, ◌+◌, List, [], ◌∷◌, ◌++◌}

-- with so many numbers 0 more
abbrev pub cores_with : ℕ → List ℕ → List ℕ
cores_with zero core = core
cores_with (suc count) core = cores_with count core ++ 0 ∷ []

-- with so many vertices in front, the last of them first; `size` is the first of them
abbrev pub order_with : ℕ → ℕ → List ℕ → List ℕ
order_with zero size order = order
order_with (suc count) size order = (size + count) ∷ order_with count size order
