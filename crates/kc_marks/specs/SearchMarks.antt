-- What a search has seen.
use Rattle.std.specs.Prelude.{ℕ}
use Rattle.kc_marks.specs.Maps.{ValuesOne}
use Rattle.kc_marks.specs.declared.seen.SearchMarks.{SearchMarks}

-- One vertex is marked so, and each other has the mark that it had, or still none.
abbrev pub MarksOne : {M : Type 0} → ℕ → M → SearchMarks M → SearchMarks M → Type 0
MarksOne y mark old new = ValuesOne y mark old.marks new.marks
