-- A sweep gives the verdict, or the claims are judged beside the graph.
use Rattle.std.proofs.Common.{◌∙◌, IfSome, List, None, Option, Some, inr, refl, subst, sym, ℕ}
use Rattle.std.proofs.lemmas.Result.{IfErr-weaker, on_ok_weaker}
use Rattle.kc_claims.specs.Certificates.{AreCertificate, IsFirstFault, TellCoreNumbers}
use Rattle.kc_claims.specs.Streams.{HoldsOfStream, IsStreamVerdict}
use Rattle.kc_claims.specs.declared.claim.Claim.{Claim}
use Rattle.kc_claims.specs.declared.fault.ClaimFault.{ClaimFault}
use Rattle.kc_claims.proofs.Streamed.{some-weaker}
use Rattle.kc_wishes.specs.Requests.{text_of}
use Rattle.kc_cores.specs.CheckEnded.{AreClaimsOf}
use Rattle.kc_cores.specs.Inputs.{known_bytes}
use Rattle.kc_cores.proofs.Claiming.{AreClaimsOf-held}
use Rattle.kc_cores.proofs.Graphs.{HoldsOfBoth-streamed, none_skipped}
use Rattle.kc_cores.proofs.checking.verdict_on.Goals as goal

-- a fault that is the verdict
fault-of : (claims : List Claim) (known : Option (List ℕ)) (found : Option ClaimFault) → IsStreamVerdict claims known found
    → IfSome found (λ fault. HoldsOfStream (λ ids h. IsFirstFault ids h claims fault) known)
fault-of claims known None h = tt
fault-of claims known (Some fault) h = h

pub swept-requires : goal.swept-requires
swept-requires g c = let (claims, h) = c.in_ok-table.ensures.claims in (claims, h.tabled)

pub returns-in-Ok-Told-clause-right : goal.returns-in-Ok-Told-clause-right
returns-in-Ok-Told-clause-right g c = λ none.
    let (claims, h) = c.in_ok-table.ensures.claims in
    let (skipped, is_none) = none_skipped c.in_ok-table.table.ids in
    let plain = rw c.in-Ok-Told.field-0-is at c.in-Ok-Told.ensures.plain in
    let swept = rw c.in-Ok-Told.field-0-is at c.in-Ok-Told.ensures.swept in
    let known : Option (List ℕ) = known_bytes g.I.Source.left g.I.FileInput.behind (text_of c.args.request.graph).file c.args.input.now in
    HoldsOfBoth-streamed (λ ids h claims. AreCertificate ids h claims × TellCoreNumbers ids h claims) _ known _ claims claims skipped is_none (plain tt)
    (AreClaimsOf-held _ claims c.in_ok-table.table h) refl (subst (λ (f : Option ClaimFault). IsStreamVerdict claims known f) none (swept claims h.tabled))

pub returns-in-Ok-Told-clause-wrong : goal.returns-in-Ok-Told-clause-wrong
returns-in-Ok-Told-clause-wrong g c =
    let (claims, h) = c.in_ok-table.ensures.claims in
    let (skipped, is_none) = none_skipped c.in_ok-table.table.ids in
    let plain = rw c.in-Ok-Told.field-0-is at c.in-Ok-Told.ensures.plain in
    let swept = rw c.in-Ok-Told.field-0-is at c.in-Ok-Told.ensures.swept in
    let known : Option (List ℕ) = known_bytes g.I.Source.left g.I.FileInput.behind (text_of c.args.request.graph).file c.args.input.now in
    some-weaker (λ (fault : ClaimFault). HoldsOfStream (λ ids h. IsFirstFault ids h claims fault) known) _ c.in-Ok-Told.found
    (λ fault. HoldsOfBoth-streamed (λ ids h claims. IsFirstFault ids h claims fault) _ known _ claims claims skipped is_none (plain tt)
    (AreClaimsOf-held _ claims c.in_ok-table.table h) refl) (fault-of claims known c.in-Ok-Told.found (swept claims h.tabled))

pub returns-in-Ok-Untold-clause-right : goal.returns-in-Ok-Untold-clause-right
returns-in-Ok-Untold-clause-right g c =
    let (claims, h) = c.in_ok-table.ensures.claims in
    let certificate = g.C.FileInput.behind c.args.certificate.now c.args.request.certificate.now in
    let swept = rw c.in-Ok-Untold.field-0-is at c.in-Ok-Untold.ensures.swept in
    c.judged.ensures.right certificate
    (subst (AreClaimsOf certificate) (sym (c.deref.ensures.value ∙ swept claims h.tabled)) (AreClaimsOf-held certificate claims c.in_ok-table.table h))

pub returns-in-Ok-Untold-clause-wrong : goal.returns-in-Ok-Untold-clause-wrong
returns-in-Ok-Untold-clause-wrong g c =
    let (claims, h) = c.in_ok-table.ensures.claims in
    let certificate = g.C.FileInput.behind c.args.certificate.now c.args.request.certificate.now in
    let swept = rw c.in-Ok-Untold.field-0-is at c.in-Ok-Untold.ensures.swept in
    c.judged.ensures.wrong certificate
    (subst (AreClaimsOf certificate) (sym (c.deref.ensures.value ∙ swept claims h.tabled)) (AreClaimsOf-held certificate claims c.in_ok-table.table h))

pub returns-in-Ok-Untold-clause-faultless : goal.returns-in-Ok-Untold-clause-faultless
returns-in-Ok-Untold-clause-faultless g c = on_ok_weaker c.judged.result (λ h. (h, c.in_ok-table.ensures.faultless)) c.judged.ensures.faultless

pub returns-in-Ok-Untold-clause-stopped : goal.returns-in-Ok-Untold-clause-stopped
returns-in-Ok-Untold-clause-stopped g c =
    IfErr-weaker c.judged.result _ _ (λ ending none. inr (none, c.in_ok-table.ensures.faultless)) c.judged.ensures.stopped
