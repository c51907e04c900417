-- The vertices as high as a settled number are dense enough for its core, and no round takes a member of a core below its level.
use Rattle.kc_hindex.proofs.Cores.{settled-are_core}
use Rattle.kc_hindex.proofs.settled_numbers_are_core_numbers.Goals as goal

pub returns : goal.returns
returns c = settled-are_core
