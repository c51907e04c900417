-- What is told of a source with so many bytes is told of one with no more.
use Rattle.std.proofs.Common.{arith}
use Rattle.kc_claims.proofs.feeding.feed_all.Goals as goal

pub returns-in-Ok-clause-fed : goal.returns-in-Ok-clause-fed
returns-in-Ok-clause-fed g c =
    let (less, fed) = c.in-Ok.ensures.fed in
    record { text = fed.text; read = fed.read; few = omega (arith, fed.few); took = fed.took }
