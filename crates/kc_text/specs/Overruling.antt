-- The changes of a batch that decide. A batch may name a pair again, and then the last change that names it decides.
use Rattle.std.specs.Prelude.{ℕ, ◌+◌, List, [], ◌∷◌, if◌then◌else◌}
use Rattle.std.specs.List.{list_any}
use Rattle.kc_text.specs.declared.change.ChangeLine.{ChangeLine}
use Rattle.kc_text.specs.Meaning.{name_same}

-- the changes that decide: those whose pair no later change of the batch names
abbrev pub deciding : List ChangeLine → List ChangeLine
deciding [] = []
deciding (c ∷ rest) = if list_any (name_same c) rest then deciding rest else c ∷ deciding rest

-- how many changes are overruled by a later one
abbrev pub overruled : List ChangeLine → ℕ
overruled [] = 0
overruled (c ∷ rest) = if list_any (name_same c) rest then overruled rest + 1 else overruled rest
