-- A state that has the text, too, is the same.
use Rattle.std.proofs.Common.{◌∙◌, sym}
use Rattle.kc_state.specs.Reading.{parts_of_state}
use Rattle.kc_state.proofs.OneState.{one-state}
use Rattle.kc_state.proofs.reading.read_state.Goals as goal

pub returns-in-Ok-clause-alone : goal.returns-in-Ok-clause-alone
returns-in-Ok-clause-alone c = λ s kept is. one-state s (parts_of_state c.in_ok-state.state) kept c.look.ensures.kept (sym is ∙ c.in-Ok.ensures)
