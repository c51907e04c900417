-- Each answer by its own lemma.
use Rattle.kc_agree.proofs.Growing.{nothing_read, one_list, one_place, one_order}
use Rattle.kc_agree.proofs.laws.one_answer_more.Goals as goal

pub returns-clause-none : goal.returns-clause-none
returns-clause-none c = nothing_read

pub returns-clause-list : goal.returns-clause-list
returns-clause-list c = one_list

pub returns-clause-place : goal.returns-clause-place
returns-clause-place c = one_place

pub returns-clause-order : goal.returns-clause-order
returns-clause-order c = one_order
