-- A load and a comparison, each by the lemma on one answer more.
use Rattle.kc_agree.proofs.Answering.{loaded_place, comparison-read}
use Rattle.kc_agree.proofs.laws.loads_and_comparisons_are_answers.Goals as goal

pub returns-clause-load : goal.returns-clause-load
returns-clause-load c = loaded_place

pub returns-clause-order : goal.returns-clause-order
returns-clause-order c = comparison-read
