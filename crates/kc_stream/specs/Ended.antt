-- The part of a stream that has come to the end of a line.
use Rattle.std.specs.Prelude.{◌≡◌, ℕ, false, List, [], ◌∷◌, if◌then◌else◌}
use Rattle.std.specs.List.{list_any}
use Rattle.kc_text.specs.Lines.{is_newline}

-- the bytes up to their last newline, with it
abbrev pub ended : List ℕ → List ℕ
ended [] = []
ended (b ∷ bytes) = if list_any is_newline (b ∷ bytes) then b ∷ ended bytes else []

-- bytes of a line that has not ended
abbrev pub IsOpen : List ℕ → Type 0
IsOpen bytes = list_any is_newline bytes ≡ false
