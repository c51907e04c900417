-- Each store to a vertex's word raises its stamp.
use Rattle.std.proofs.Common.{arith}
use Rattle.kc_table.proofs.Stamps.{stamps-rise, same-stamp}
use Rattle.kc_table.proofs.laws.the_stamp_of_a_vertex_never_falls.Goals as goal

pub returns-clause-never_falls : goal.returns-clause-never_falls
returns-clause-never_falls c = stamps-rise

pub returns-clause-same : goal.returns-clause-same
returns-clause-same c = λ shape opening first last v pre legal same. same-stamp shape opening first last v pre legal (omega (arith, same))
