-- Each number is told apart from what stands behind it, line by line.
use Rattle.kc_state.proofs.OneState.{one-state}
use Rattle.kc_state.proofs.laws.a_text_is_of_one_state.Goals as goal

pub returns : goal.returns
returns c = one-state
