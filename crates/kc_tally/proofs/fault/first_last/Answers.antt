-- Nothing is below (0, 0) that could be refused for it.
use Rattle.std.proofs.Common.{◌∙◌, ap, sym}
use Rattle.kc_tally.specs.Lists.{first_fault}
use Rattle.kc_tally.proofs.Faults.{origin-first}
use Rattle.kc_tally.proofs.fault.first_last.Goals as goal

pub returns-in-None : goal.returns-in-None
returns-in-None c = λ n es. origin-first n es ∙ ap (λ before. first_fault n 0 before es) (sym c.in-None.is)
