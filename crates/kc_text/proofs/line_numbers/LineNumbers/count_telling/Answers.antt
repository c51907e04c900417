-- What is skipped before the line is noted, and the line has the next number.
use Rattle.std.proofs.Common.{refl}
use Rattle.kc_text.proofs.Numbered.{telling-counted}
use Rattle.kc_text.proofs.line_numbers.LineNumbers.count_telling.Goals as goal

pub returns-clause-numbers : goal.returns-clause-numbers
returns-clause-numbers c = λ before line is has.
    telling-counted c.args.self.now c.note_skipped.new.self _ before line is has c.in_ok-note_skipped.ensures refl refl refl refl
