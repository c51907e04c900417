-- The history of a board: lists of core numbers, oldest first.
use Rattle.std.specs.Prelude.{◌≡◌, ◌<◌, ◌==◌, ◌&&◌, ◌-◌, ℕ, Bool, true, false, List, [], ◌∷◌, length, nat_eq, nat_lt, slice_index, slice_index_or}
use Rattle.std.specs.Prelude.{slice_set, if◌then◌else◌}
use Rattle.std.specs.List.{list_any}
use Rattle.kc_snapshot.specs.declared.member.Member.{Member}
use Rattle.kc_snapshot.specs.declared.listing.Place.{Place}

-- a member of the history: a list of core numbers
abbrev pub member : List ℕ → Member
member core = record { core = core }

-- the list with this number, from 0
abbrev pub list_at : List Member → ℕ → List ℕ
list_at history number = (slice_index_or history number (member [])).core

-- the list that was published last
abbrev pub last_list : List Member → List ℕ
last_list history = list_at history (length history - 1)

-- the core number of a vertex in the list with this number
abbrev pub core_at : List Member → ℕ → ℕ → ℕ
core_at history number v = slice_index (list_at history number) v

-- how many vertices the board has
abbrev pub width : List Member → ℕ
width history = length (list_at history 0)

-- each list has so many vertices
abbrev pub all_wide : ℕ → List Member → Bool
all_wide n [] = true
all_wide n (m ∷ ms) = (length m.core == n) && all_wide n ms

-- there is a list, and all are of the same vertices
abbrev pub is_history : List Member → Bool
is_history [] = false
is_history (m ∷ ms) = all_wide (length m.core) ms

-- a list with these places changed
abbrev pub changed : List ℕ → List Place → List ℕ
changed core [] = core
changed core (p ∷ ps) = changed (slice_set core p.at p.core) ps

-- the vertices of these that a list has, with its numbers
abbrev pub numbers_at : List ℕ → List ℕ → List Place
numbers_at core [] = []
numbers_at core (v ∷ vs) = if nat_lt v (length core) then record { at = v; core = slice_index core v } ∷ numbers_at core vs else numbers_at core vs

-- no vertex but these has another number in the one list than in the other
abbrev pub DifferAmong : List ℕ → List ℕ → List ℕ → Type 0
DifferAmong vertices old new = (v : ℕ) → v < length new → list_any (nat_eq v) vertices ≡ false → slice_index old v ≡ slice_index new v
