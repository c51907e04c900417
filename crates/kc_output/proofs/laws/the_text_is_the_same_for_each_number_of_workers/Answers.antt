-- The lines are made of the other parts of the setting.
use Rattle.kc_output.proofs.OneText.{same-for_workers}
use Rattle.kc_output.proofs.laws.the_text_is_the_same_for_each_number_of_workers.Goals as goal

pub returns : goal.returns
returns c = same-for_workers
