-- The counts tell what is wrong with the claims.
use Rattle.std.proofs.Common.{ap, is_none}
use Rattle.kc_claims.specs.Insisting.{IsCountFault}
use Rattle.kc_claims.specs.Streams.{IsFaultOfStream}
use Rattle.kc_claims.specs.declared.fault.ClaimFault.{ClaimFault}
use Rattle.kc_claims.proofs.Insisted.{AreCounted-looked, certified-ascending, faulty-ascending}
use Rattle.kc_claims.proofs.Streamed.{some-weaker}
use Rattle.kc_claims.proofs.ascending.AscendingCheck.verdict.Goals as goal

pub fault_by_counts-requires : goal.fault_by_counts-requires
fault_by_counts-requires c =
    let (claims, known, h) = c.requires in
    (claims, h.order, AreCounted-looked claims h.order c.args.self.now.insisting c.args.self.now.lines known h.looked)

pub returns-clause-certified : goal.returns-clause-certified
returns-clause-certified c = λ claims known h none.
    let now = c.args.self.now.insisting in
    let counted = AreCounted-looked claims h.order now c.args.self.now.lines known h.looked in
    certified-ascending claims h.order now known h.looked.insisted
    (c.fault_by_counts.ensures.agree claims h.order counted (ap is_none none))
    (c.fault_by_counts.ensures.counted claims h.order counted (ap is_none none))

pub returns-clause-faulty : goal.returns-clause-faulty
returns-clause-faulty c = λ claims known h.
    let now = c.args.self.now.insisting in
    some-weaker (IsCountFault claims h.order now.sweep.later.items now.sweep.supporters.items)
    (λ (fault : ClaimFault). IsFaultOfStream claims fault known) c.fault_by_counts.result
    (λ fault f. faulty-ascending claims h.order now known h.looked.insisted fault f)
    (c.fault_by_counts.ensures.found claims h.order (AreCounted-looked claims h.order now c.args.self.now.lines known h.looked))
