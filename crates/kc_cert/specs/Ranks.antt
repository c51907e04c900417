-- An order as the rank of each vertex.
use Rattle.std.specs.Prelude.{◌≡◌, ◌<◌, ◌+◌, ⊤, ℕ, Bool, true, false, List, [], ◌∷◌, nat_eq, nat_lt, if◌then◌else◌, ◌&&◌, ◌||◌}
use Rattle.kc_lists.specs.Lists.{member, place_of}

-- how many stand before a vertex in a list
abbrev pub rank_in : List ℕ → ℕ → ℕ
rank_in order x = place_of x order

-- each stands before those after it
abbrev pub AscendsBy : (ℕ → ℕ) → List ℕ → Type 0
AscendsBy rank [] = ⊤
AscendsBy rank (x ∷ xs) = ((y : ℕ) → member y xs ≡ true → rank x < rank y) × AscendsBy rank xs

-- the ranks after `x` was put right after `p`, all of them doubled to make room
abbrev pub moved : (ℕ → ℕ) → ℕ → ℕ → ℕ → ℕ
moved place x p y = if nat_eq y x then place p + place p + 1 else place y + place y

-- the ranks after all shifts
abbrev pub place_after : (ℕ → ℕ) → List (ℕ × ℕ) → ℕ → ℕ
place_after place [] = place
place_after place (shift ∷ shifts) = place_after (moved place shift.0 shift.1) shifts

-- each stands before those after it, by a test
abbrev pub Orders : (ℕ → ℕ → Bool) → List ℕ → Type 0
Orders lt [] = ⊤
Orders lt (y ∷ ys) = ((z : ℕ) → member z ys ≡ true → (lt y z ≡ true) × (lt z y ≡ false)) × Orders lt ys

-- where an order with `moved` between the low ones and the others has a vertex
abbrev pub part : (ℕ → Bool) → List ℕ → ℕ → ℕ
part is_low moved y = if member y moved then 1 else if is_low y then 0 else 2

-- whether `y` stands after `z` then: `inside` ranks those that moved, and `place` the others
abbrev pub then_after : (ℕ → Bool) → List ℕ → (ℕ → ℕ) → (ℕ → ℕ) → ℕ → ℕ → Bool
then_after is_low moved inside place z y =
    nat_lt (part is_low moved z) (part is_low moved y)
    ||
    (nat_eq (part is_low moved z) (part is_low moved y)
    && (if member z moved then nat_lt (inside z) (inside y) else nat_lt (place z) (place y)))
