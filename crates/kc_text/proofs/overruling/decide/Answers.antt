-- No more updates decide than there are.
use Rattle.std.proofs.Common.{arith, ap, length}
use Rattle.kc_text.proofs.Decided.{length-last}
use Rattle.kc_text.proofs.overruling.decide.Goals as goal

pub overflow_sub-overruled : goal.overflow_sub-overruled
overflow_sub-overruled c = omega (arith, c.len.ensures, length-last c.args.updates.now, ap (length) c.in_ok-left.ensures)

pub returns-clause-overruled : goal.returns-clause-overruled
returns-clause-overruled c = omega (arith, c.len.ensures, length-last c.args.updates.now, ap (length) c.in_ok-left.ensures)
