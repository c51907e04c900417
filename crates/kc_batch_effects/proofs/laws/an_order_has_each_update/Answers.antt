-- As many as a row of numbers has are all of it.
use Rattle.kc_batch_effects.proofs.InAnyOrder.{has-each}
use Rattle.kc_batch_effects.proofs.laws.an_order_has_each_update.Goals as goal

pub returns : goal.returns
returns c = λ first batch made place order l. has-each first batch made order place l
