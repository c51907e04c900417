-- What is in one piece is in no other.
use Rattle.kc_tally.proofs.Faults.{once-pieces, parted-apart}
use Rattle.kc_tally.proofs.disjoint_pieces_have_each_edge_once.Goals as goal

pub returns-clause-once : goal.returns-clause-once
returns-clause-once c = once-pieces

pub returns-clause-apart : goal.returns-clause-apart
returns-clause-apart c = parted-apart
