-- The law on the vertices that are put, from its lemma.
use Rattle.kc_levels.proofs.Laws.{puts-once}
use Rattle.kc_levels.proofs.moved_vertices_are_put_once.Goals as goal

pub returns : goal.returns
returns c = puts-once
