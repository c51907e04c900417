-- The vertices of all claims are between, so the claims are a certificate, and they tell the core numbers.
use Rattle.std.proofs.Common.{refl}
use Rattle.kc_claims.specs.Certificates.{AreCertificate}
use Rattle.kc_claims.proofs.Certified.{AreCertificate-between}
use Rattle.kc_claims.proofs.Seidman.{TellCoreNumbers-certificate}
use Rattle.kc_claims.proofs.checking.check_claims.Goals as goal

pub returns-in-None-clause-certified : goal.returns-in-None-clause-certified
returns-in-None-clause-certified c =
    let taken = c.in_ok-taken.taken in
    AreCertificate-between c.args.ids.now c.args.graph.now c.args.claims.now taken.order.items taken.core.items taken.rank.items
    c.in_ok-taken.ensures.told c.requires.named (c.in-None.ensures.none refl)

pub returns-in-None-clause-seidman : goal.returns-in-None-clause-seidman
returns-in-None-clause-seidman c =
    let taken = c.in_ok-taken.taken in
    let certificate : AreCertificate c.args.ids.now c.args.graph.now c.args.claims.now =
    AreCertificate-between c.args.ids.now c.args.graph.now c.args.claims.now taken.order.items taken.core.items taken.rank.items
    c.in_ok-taken.ensures.told c.requires.named (c.in-None.ensures.none refl) in
    TellCoreNumbers-certificate c.args.ids.now c.args.graph.now c.args.claims.now c.requires.named certificate
