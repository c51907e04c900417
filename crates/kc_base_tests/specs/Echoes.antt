-- What a replier says that echoes each byte up to the first full stop.
use Rattle.std.specs.Prelude.{ℕ, ◌++◌, ◌∷◌, Bool, List, [], nat_eq, if◌then◌else◌}
use Rattle.std.specs.List.{list_any}

-- whether a byte is a full stop
abbrev pub is_stop : ℕ → Bool
is_stop byte = nat_eq byte 46

-- whether there is a full stop among the bytes
abbrev pub has_stop : List ℕ → Bool
has_stop bytes = list_any is_stop bytes

-- the bytes before the first full stop, or all of them
abbrev pub said : List ℕ → List ℕ
said [] = []
said (byte ∷ bytes) = if is_stop byte then [] else byte ∷ said bytes

-- the same, and a question mark where the input ended without a full stop
abbrev pub said_at_end : List ℕ → List ℕ
said_at_end bytes = if has_stop bytes then said bytes else said bytes ++ 63 ∷ []
