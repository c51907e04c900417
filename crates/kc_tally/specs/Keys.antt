-- Orders of vertices by several numbers of each: the first that differ decide.
use Rattle.std.specs.Prelude.{ℕ, Bool, ◌&&◌, ◌||◌, ◌==◌, List, nat_lt, slice_index}

-- whether three numbers come before three others: `a`, `r` and `v` before `b`, `s` and `w`
abbrev pub comes_before : ℕ → ℕ → ℕ → ℕ → ℕ → ℕ → Bool
comes_before a b r s v w = nat_lt a b || (a == b && (nat_lt r s || (r == s && nat_lt v w)))

-- The key of a vertex is its core number, then its rank, then itself, so no two vertices have the same key.
-- Whether the key of `v` is less than that of `w`.
abbrev pub has_lesser_key : List ℕ → List ℕ → ℕ → ℕ → Bool
has_lesser_key core rank v w = comes_before (slice_index core v) (slice_index core w) (slice_index rank v) (slice_index rank w) v w

-- whether `v` stands before `w` in the order by core number, then rank, then name, where each vertex has a name of its own
abbrev pub stands_before : List ℕ → List ℕ → List ℕ → ℕ → ℕ → Bool
stands_before core rank names v w =
    comes_before (slice_index core v) (slice_index core w) (slice_index rank v) (slice_index rank w) (slice_index names v) (slice_index names w)
