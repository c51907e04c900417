-- The opening words have stamp 0, and a new table has no entries.
use Rattle.std.proofs.Common.{ap}
use Rattle.kc_words.specs.declared.shape.Shape.{Shape}
use Rattle.kc_agree_tests.proofs.Sections.{new_closed, new_number, no_stamps}
use Rattle.kc_agree_tests.proofs.histories.open.Goals as goal

pub open-requires-clause-stamps : goal.open-requires-clause-stamps
open-requires-clause-stamps c = λ v _. no_stamps v

pub returns-clause-number : goal.returns-clause-number
returns-clause-number c =
    let o = c.in_ok-words in
    new_number o.words o.writer o.ensures.writer (ap (λ (s : Shape). s.base) o.ensures.shape)

pub returns-clause-closed : goal.returns-clause-closed
returns-clause-closed c =
    let o = c.in_ok-words in
    new_closed o.words o.writer o.ensures.writer
