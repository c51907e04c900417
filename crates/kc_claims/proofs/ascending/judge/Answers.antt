-- The stream is one piece, and what is told of the piece is told of it.
use Rattle.std.proofs.Common.{◌≡◌, [], Err, List, Option, Some, ℕ, ap, subst}
use Rattle.kc_claims.specs.Certificates.{AreCertificate, TellCoreNumbers}
use Rattle.kc_claims.specs.Pieces.{with_piece}
use Rattle.kc_claims.specs.Streams.{HoldsOfStream, IsFaultOfStream}
use Rattle.kc_claims.specs.declared.fault.ClaimFault.{ClaimFault}
use Rattle.kc_claims.specs.declared.fault.ClaimFault.TheVariants as claim_fault
use Rattle.kc_claims.specs.declared.fault.StreamFault.TheVariants as stream
use Rattle.kc_claims.proofs.Pieced.{HasFaultyLine-piece, one-piece}
use Rattle.kc_claims.proofs.Streamed.{some-weaker}
use Rattle.kc_claims.proofs.ascending.judge.Goals as goal

pub verdict-requires : goal.verdict-requires
verdict-requires g c =
    let (claims, h) = c.requires in
    (claims, with_piece (Some []) (g.S.Source.left c.args.source.now), c.in-Ok-None.ensures.taken claims (Some []) h c.in-Ok-None.field-0-is)

pub returns-in-Ok-None-clause-certified : goal.returns-in-Ok-None-clause-certified
returns-in-Ok-None-clause-certified g c = λ claims h none.
    let left = g.S.Source.left c.args.source.now in
    subst (λ (k : Option (List ℕ)). HoldsOfStream (λ ids g. AreCertificate ids g claims × TellCoreNumbers ids g claims) k) (one-piece left)
    (c.verdict.ensures.certified claims (with_piece (Some []) left) (c.in-Ok-None.ensures.taken claims (Some []) h c.in-Ok-None.field-0-is) none)

pub returns-in-Ok-None-clause-faulty : goal.returns-in-Ok-None-clause-faulty
returns-in-Ok-None-clause-faulty g c = λ claims h.
    let left = g.S.Source.left c.args.source.now in
    some-weaker (λ (fault : ClaimFault). IsFaultOfStream claims fault (with_piece (Some []) left)) (λ (fault : ClaimFault). IsFaultOfStream claims fault left)
    c.verdict.result (λ fault f. subst (λ (k : Option (List ℕ)). IsFaultOfStream claims fault k) (one-piece left) f)
    (c.verdict.ensures.faulty claims (with_piece (Some []) left) (c.in-Ok-None.ensures.taken claims (Some []) h c.in-Ok-None.field-0-is))

pub returns-in-Ok-Some-clause-faulty : goal.returns-in-Ok-Some-clause-faulty
returns-in-Ok-Some-clause-faulty g c = λ claims h.
    let left = g.S.Source.left c.args.source.now in
    let unclaimed = rw c.in-Ok-Some.field-0-is at c.in-Ok-Some.ensures.unclaimed in
    subst (λ (k : Option (List ℕ)). IsFaultOfStream claims (claim_fault.Missing c.in-Ok-Some.id) k) (one-piece left) (unclaimed claims (Some []) h)

pub returns-clause-line : goal.returns-clause-line
returns-clause-line g c = λ claims faulty h e.
    let same : c.in-Err.fault ≡ stream.Line faulty = cc in
    HasFaultyLine-piece claims (g.S.Source.left c.args.source.now) faulty (c.in-Err.ensures.line claims (Some []) faulty h (ap Err same))
