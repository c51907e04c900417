-- None of the bytes before the full stop that is found is one; where none is found all are echoed.
use Rattle.std.proofs.Common.{arith}
use Rattle.kc_base_tests.proofs.Stops.{said-at, said-whole}
use Rattle.kc_base_tests.proofs.echo.front_len.Goals as goal

pub returns-then-b-eq46-clause-said : goal.returns-then-b-eq46-clause-said
returns-then-b-eq46-clause-said c = said-at c.args.bytes.now c.loop-i.i (omega arith) c.loop-i.invariant (omega arith)

pub returns-clause-said : goal.returns-clause-said
returns-clause-said c = said-whole c.args.bytes.now c.loop-i.i (omega arith) c.loop-i.invariant
