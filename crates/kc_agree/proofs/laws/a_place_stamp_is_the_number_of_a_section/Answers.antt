-- Along the stores of the log.
use Rattle.kc_agree.proofs.Sectioning.{sealed_since, risen_was_put, put_no_later}
use Rattle.kc_agree.proofs.laws.a_place_stamp_is_the_number_of_a_section.Goals as goal

pub returns-clause-sealed : goal.returns-clause-sealed
returns-clause-sealed c = λ table first last v pre legal lt. sealed_since table v first last pre legal lt

pub returns-clause-put : goal.returns-clause-put
returns-clause-put c = λ table first last v low pre legal lt. risen_was_put table v low first last pre legal lt

pub returns-clause-last : goal.returns-clause-last
returns-clause-last c = λ table log v number low rest put. put_no_later table v low log number rest.legal rest.closed put
