-- What both stores make of a state is known whole.
use Rattle.std.proofs.Common.{ap}
use Rattle.kc_table.specs.TableState.{TableState}
use Rattle.kc_table.proofs.Entries.{state_of-entry, state_of-index}
use Rattle.kc_table.proofs.laws.an_entry_has_the_index_that_was_stored_before_its_note.Goals as goal

pub returns-clause-index : goal.returns-clause-index
returns-clause-index c = λ shape opening log index small.
    let at = state_of-index shape opening log index small in (ap (λ (z : TableState). z.list) at, ap (λ (z : TableState). z.entries) at)

pub returns-clause-entry : goal.returns-clause-entry
returns-clause-entry c = λ shape opening log index u v add legal small fits.
    ap (λ (z : TableState). z.entries) (state_of-entry shape opening log index add u v legal small fits)
