-- No entry behind the stamp changes an edge of the vertex.
use Rattle.kc_agree.proofs.Neighbouring.{current_neighbours}
use Rattle.kc_agree.proofs.laws.a_present_edge_stamp_means_the_same_neighbours.Goals as goal

pub returns : goal.returns
returns c = λ table opened stamps log v at list le. current_neighbours table opened stamps log v at list le
