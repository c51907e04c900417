-- How shifts are compared without making them. Shifted vertices stand in chains, each behind an anchor that no shift moves: a vertex
-- comes right behind the one that its shift names. One line has all anchors and shifted vertices, each chain in its order.
use Rattle.std.specs.Prelude.{ℕ, Bool, List, [], ◌∷◌, ◌++◌, Option, None, Some, unwrap_or, nat_eq, nat_lt, if◌then◌else◌}
use Rattle.kc_lists.specs.Lists.{member, right_after, place_of}

-- where a list has a number
abbrev pub place_in : List ℕ → ℕ → Option ℕ
place_in xs x = if member x xs then Some (place_of x xs) else None

-- the anchor behind which a vertex stands: that of its chain, or itself where it is in none
abbrev pub anchor_of : (ℕ → Option ℕ) → ℕ → ℕ
anchor_of home y = unwrap_or (home y) y

-- the line with `w` in it
abbrev pub with_anchor : ℕ → List ℕ → List ℕ
with_anchor w line = if member w line then line else line ++ w ∷ []

-- the line after `x` was put right behind `w`
abbrev pub line_with : ℕ → ℕ → List ℕ → List ℕ
line_with x w line = right_after x w (with_anchor w line)

-- the anchors then
abbrev pub home_with : ℕ → ℕ → (ℕ → Option ℕ) → ℕ → Option ℕ
home_with x w home y = if nat_eq y x then Some (anchor_of home w) else (if nat_eq y w then Some (anchor_of home w) else home y)

-- the line after all shifts
abbrev pub line_after : List ℕ → List (ℕ × ℕ) → List ℕ
line_after line [] = line
line_after line (shift ∷ shifts) = line_after (line_with shift.0 shift.1 line) shifts

-- the anchors after all shifts
abbrev pub home_after : (ℕ → Option ℕ) → List (ℕ × ℕ) → ℕ → Option ℕ
home_after home [] = home
home_after home (shift ∷ shifts) = home_after (home_with shift.0 shift.1 home) shifts

-- no vertex stands in a chain
abbrev pub no_home : ℕ → Option ℕ
no_home y = None

-- whether `z` stands after `y`, by anchors and by places in the line
abbrev pub chain_after : (ℕ → ℕ) → (ℕ → Option ℕ) → (ℕ → Option ℕ) → ℕ → ℕ → Bool
chain_after place home places y z =
    if nat_eq (anchor_of home y) (anchor_of home z) then nat_lt (unwrap_or (places y) 0) (unwrap_or (places z) 0) else nat_lt
    (place (anchor_of home y)) (place (anchor_of home z))
