-- The batch begins where the journal stands.
use Rattle.kc_batch.proofs.batch.run_desks.Given as goal

abbrev pub ghost-work_off : goal.ghost-work_off
ghost-work_off g a = a.state.parts.journal
