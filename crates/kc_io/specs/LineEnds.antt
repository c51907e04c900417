-- Bytes that end within a line, and how they are ended.
use Rattle.std.specs.Prelude.{◌==◌, ◌++◌, ◌∷◌, ℕ, Bool, false, not, List, [], if◌then◌else◌}

-- whether bytes end within a line
abbrev pub is_cut_off : List ℕ → Bool
is_cut_off [] = false
is_cut_off (b ∷ []) = not (b == 10)
is_cut_off (b ∷ c ∷ bytes) = is_cut_off (c ∷ bytes)

-- bytes with a line end behind their last line, which may have none
abbrev pub with_end : List ℕ → List ℕ
with_end bytes = if is_cut_off bytes then bytes ++ 10 ∷ [] else bytes
