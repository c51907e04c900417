-- At a line of a wrong form nothing is told.
use Rattle.std.proofs.Common.{refl}
use Rattle.kc_text.proofs.ToldLines.{told-same}
use Rattle.kc_text.proofs.reader.Reader.take.Goals as goal

pub returns-in-Wrong-clause-tells : goal.returns-in-Wrong-clause-tells
returns-in-Wrong-clause-tells c = told-same _ _ _ _ refl
