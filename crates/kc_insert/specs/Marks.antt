-- What is kept of the vertices that were queued.
use Rattle.std.specs.Prelude.{ℕ, Bool, false, Option, Some, None}
use Rattle.kc_insert.specs.declared.rising.Mark.{Mark}

-- what a mark says
abbrev pub earlier_in : Option Mark → ℕ
earlier_in None = 0
earlier_in (Some mark) = mark.earlier

-- how many neighbours stand behind its vertex and may rise, or are higher, as the mark says, or 0
abbrev pub later_in : Option Mark → ℕ
later_in None = 0
later_in (Some mark) = mark.later

-- the place in the queue that a mark says, or 0
abbrev pub turn_in : Option Mark → ℕ
turn_in None = 0
turn_in (Some mark) = mark.turn

-- whether a mark says that its vertex may rise
abbrev pub candidate_in : Option Mark → Bool
candidate_in None = false
candidate_in (Some mark) = mark.is_candidate

-- whether a mark says that its vertex was found too weak to rise
abbrev pub weak_in : Option Mark → Bool
weak_in None = false
weak_in (Some mark) = mark.is_weak
