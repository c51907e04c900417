-- Along the entries.
use Rattle.std.proofs.Common.{get_or}
use Rattle.kc_agree.specs.Stamps.{made_by}
use Rattle.kc_agree.proofs.Answering.{of_an_entry}
use Rattle.kc_agree.proofs.Neighbouring.{no_later}
use Rattle.kc_agree.proofs.laws.an_edge_stamp_is_the_number_of_an_entry.Goals as goal

pub returns-clause-bound : goal.returns-clause-bound
returns-clause-bound c = λ table opened stamps log v early. no_later opened (made_by table log).entries table.shape.base v (get_or stamps v 0) early

pub returns-clause-entry : goal.returns-clause-entry
returns-clause-entry c = of_an_entry
