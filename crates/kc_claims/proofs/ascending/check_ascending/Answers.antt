-- The claims repeat an id, or the stream is judged.
use Rattle.std.proofs.Common.{Err, ap, subst, sym}
use Rattle.kc_claims.specs.Streams.{IsFaultOfStream}
use Rattle.kc_claims.specs.declared.fault.ClaimFault.{ClaimFault}
use Rattle.kc_claims.proofs.ascending.check_ascending.Goals as goal

pub judge-requires : goal.judge-requires
judge-requires g c =
    let (claims, tabled) = c.requires in
    (claims, c.in-Ok.ensures.begun claims tabled)

pub returns-in-Ok-clause-certified : goal.returns-in-Ok-clause-certified
returns-in-Ok-clause-certified g c = λ claims tabled. c.judge.ensures.certified claims (c.in-Ok.ensures.begun claims tabled)

pub returns-in-Ok-clause-faulty : goal.returns-in-Ok-clause-faulty
returns-in-Ok-clause-faulty g c = λ claims tabled. c.judge.ensures.faulty claims (c.in-Ok.ensures.begun claims tabled)

pub returns-in-Ok-clause-line : goal.returns-in-Ok-clause-line
returns-in-Ok-clause-line g c = λ claims faulty tabled e. c.judge.ensures.line claims faulty (c.in-Ok.ensures.begun claims tabled) e

pub returns-in-Err-Faulty-clause-faulty : goal.returns-in-Err-Faulty-clause-faulty
returns-in-Err-Faulty-clause-faulty g c = λ claims tabled.
    let left = g.S.Source.left c.args.source.now in
    let faulty = c.in-Err-Faulty.ensures.faulty claims c.in-Err-Faulty.fault left tabled (ap Err c.in-Err-Faulty.field-0-is) in
    subst (λ (f : ClaimFault). IsFaultOfStream claims f left) (sym c.in-Err-Faulty.fault-is) faulty
