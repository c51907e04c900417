-- Where moves put the vertices, asked one at a time.
use Rattle.std.specs.Prelude.{ℕ, ◌+◌, ◌-◌, Bool, false, not, ◌||◌, List, [], Option, None, Some, nat_eq, nat_le, nat_lt, slice_index, if◌then◌else◌}
use Rattle.std.specs.Option.{option_eq}
use Rattle.kc_graph.specs.Lawful.{Ranked}
use Rattle.kc_graph.specs.Plans.{updated, moved_by}
use Rattle.kc_graph.specs.declared.update.Update.{Update}
use Rattle.kc_graph.specs.declared.plan.Moves.{Moves}
use Rattle.kc_graph.specs.declared.plan.Moves.TheVariants.{Kept, Plain, Rise, Fall}
use Rattle.kc_cert.specs.Ranks.{rank_in, place_after, then_after}

-- the vertices that leave their level
abbrev pub leaving : Moves → List ℕ
leaving Kept = []
leaving Plain = []
leaving (Rise level rise shifts) = rise.items
leaving (Fall level fall) = fall.items

-- the level to which they go
abbrev pub next_level : Moves → ℕ
next_level Kept = 0
next_level Plain = 0
next_level (Rise level rise shifts) = level + 1
next_level (Fall level fall) = level - 1

-- the shifts of a rise: pairs of a vertex and the one right after which it is put
abbrev pub shifts_of : Moves → List (ℕ × ℕ)
shifts_of Kept = []
shifts_of Plain = []
shifts_of (Rise level rise shifts) = shifts.items
shifts_of (Fall level fall) = []

-- whether a vertex has a level that stands before those that leave theirs
abbrev pub is_low : Moves → List ℕ → ℕ → Bool
is_low Kept core y = false
is_low Plain core y = false
is_low (Rise level rise shifts) core y = nat_le (slice_index core y) level
is_low (Fall level fall) core y = nat_lt (slice_index core y) level

-- whether `y` stands after `z` once the moves are made
abbrev pub stands_after : Moves → Ranked → ℕ → ℕ → Bool
stands_after moves s z y = then_after (is_low moves s.core) (leaving moves) (rank_in (leaving moves)) (place_after (rank_in s.order) (shifts_of moves)) z y

-- the other end of an update's edge, where `z` is one
abbrev pub other_end : Update → ℕ → Option ℕ
other_end update z = if nat_eq z update.u then Some update.v else (if nat_eq z update.v then Some update.u else None)

-- whether a neighbour of `z` stays one
abbrev pub keeps : Update → ℕ → ℕ → Bool
keeps update z y = update.add || not (option_eq nat_eq (other_end update z) (Some y))

-- all after an update that is applied, and moves
abbrev pub changed_by : Update → Moves → Ranked → Ranked
changed_by update moves s = record (moved_by moves s) { graph = updated update s.graph }
