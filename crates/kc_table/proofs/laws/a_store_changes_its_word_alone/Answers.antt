-- The words after one store more are those before it with one set.
use Rattle.kc_table.proofs.Steps.{value_at-other, value_at-stored}
use Rattle.kc_table.proofs.laws.a_store_changes_its_word_alone.Goals as goal

pub returns-clause-others : goal.returns-clause-others
returns-clause-others c = value_at-other

pub returns-clause-stored : goal.returns-clause-stored
returns-clause-stored c = value_at-stored
