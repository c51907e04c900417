-- The entries before it are of other edges.
use Rattle.kc_batch_effects.proofs.InAnyOrder.{does-what-it-would}
use Rattle.kc_batch_effects.proofs.laws.an_entry_does_what_it_would_do_first.Goals as goal

pub returns : goal.returns
returns c = does-what-it-would
