-- An update whose edge is named again makes no difference.
use Rattle.kc_batch_effects.proofs.LastUpdates.{last-leave, last-leave_in_any_order}
use Rattle.kc_batch_effects.proofs.laws.the_last_updates_leave_what_all_leave.Goals as goal

pub returns : goal.returns
returns c = record { as_a_batch = last-leave; in_any_order = last-leave_in_any_order }
