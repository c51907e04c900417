-- A line that tells nothing has no number.
use Rattle.std.proofs.Common.{refl, sym, ◌∙◌}
use Rattle.kc_text.proofs.Numbered.{silent-counted}
use Rattle.kc_text.proofs.line_numbers.LineNumbers.count.Goals as goal

pub returns-clause-numbers : goal.returns-clause-numbers
returns-clause-numbers c = λ before has.
    silent-counted c.args.self.now _ before c.args.line (sym c.is_telling.ensures ∙ c.if-is_telling.false) has refl refl refl refl
