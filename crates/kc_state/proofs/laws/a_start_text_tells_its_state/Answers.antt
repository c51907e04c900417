-- The lines of the start text tell loops at the ids, and then the edges.
use Rattle.kc_state.proofs.Beginning.{begun-with}
use Rattle.kc_state.proofs.laws.a_start_text_tells_its_state.Goals as goal

pub returns : goal.returns
returns c = begun-with
