-- What was found holds of the stream and the claims that were read.
use Rattle.std.proofs.Common.{Err, List, None, ap, inl, inr, map, refl, subst, sym, ℕ}
use Rattle.std.proofs.lemmas.Result.{IfErr-weaker, IfOk-weaker, on_ok_weaker}
use Rattle.kc_claims.specs.Certificates.{AreCertificate, TellCoreNumbers}
use Rattle.kc_claims.specs.declared.fault.ClaimFault.{ClaimFault}
use Rattle.kc_claims.proofs.Streamed.{some-weaker}
use Rattle.kc_cores.specs.CheckEnded.{AreClaimsOf}
use Rattle.kc_cores.specs.StreamChecked.{IsStreamFault, files_for}
use Rattle.kc_cores.proofs.Claiming.{AreClaimsOf-held}
use Rattle.kc_cores.proofs.Graphs.{HoldsOfBoth-streamed, none_skipped}
use Rattle.kc_cores.proofs.StreamChecking.{text-some}
use Rattle.kc_cores.proofs.stream_check.verdict_on.Goals as goal

pub judged-requires : goal.judged-requires
judged-requires g c =
    let (claims, h) = c.in_ok-table.ensures.claims in
    (claims, c.in-Ok.ensures.begun claims h.tabled)

pub returns-in-Ok-clause-right : goal.returns-in-Ok-clause-right
returns-in-Ok-clause-right g c =
    let (claims, h) = c.in_ok-table.ensures.claims in
    let (skipped, is_none) = none_skipped c.in_ok-table.table.ids in
    let certificate = g.C.FileInput.behind c.args.certificate.now c.args.name.now in
    let claimed : AreClaimsOf certificate claims = AreClaimsOf-held certificate claims c.in_ok-table.table h in
    IfOk-weaker c.judged.result _ _
    (λ found right none.
    let (known, text, holds) = right none in (
      known,
      text,
      HoldsOfBoth-streamed (λ ids h claims. AreCertificate ids h claims × TellCoreNumbers ids h claims) None known certificate claims claims
          skipped is_none refl claimed refl holds,
    ))
    (c.judged.ensures.right claims (c.in-Ok.ensures.begun claims h.tabled))

pub returns-in-Ok-clause-wrong : goal.returns-in-Ok-clause-wrong
returns-in-Ok-clause-wrong g c =
    let (claims, h) = c.in_ok-table.ensures.claims in
    let certificate = g.C.FileInput.behind c.args.certificate.now c.args.name.now in
    IfOk-weaker c.judged.result _ _
    (λ found.
    some-weaker _ _ found
    (λ fault (n, known, text, wrong). (
      n,
      known,
      text,
      record { claims = claims; claimed = AreClaimsOf-held certificate claims c.in_ok-table.table h; found = wrong },
    )))
    (c.judged.ensures.wrong claims (c.in-Ok.ensures.begun claims h.tabled))

pub returns-in-Ok-clause-faultless : goal.returns-in-Ok-clause-faultless
returns-in-Ok-clause-faultless g c = on_ok_weaker c.judged.result (λ h. (h, c.in_ok-table.ensures.faultless)) c.judged.ensures.faultless

pub returns-in-Ok-clause-stopped : goal.returns-in-Ok-clause-stopped
returns-in-Ok-clause-stopped g c =
    let (claims, h) = c.in_ok-table.ensures.claims in
    let certificate = g.C.FileInput.behind c.args.certificate.now c.args.name.now in
    IfErr-weaker c.judged.result _ _
    (λ ending none. inr (inl ((claims, AreClaimsOf-held certificate claims c.in_ok-table.table h, none), c.in_ok-table.ensures.faultless)))
    (c.judged.ensures.stopped claims (c.in-Ok.ensures.begun claims h.tabled))

pub returns-in-Err-Faulty-clause-wrong : goal.returns-in-Err-Faulty-clause-wrong
returns-in-Err-Faulty-clause-wrong g c =
    let (claims, h) = c.in_ok-table.ensures.claims in
    let certificate = g.C.FileInput.behind c.args.certificate.now c.args.name.now in
    let files : List (List ℕ) = map (λ t. t.now) c.args.files.now in
    let fault = c.in-Err-Faulty.fault in
    let (known, text) = text-some g.I.Source.left g.I.FileInput.behind c.args.input.now (files_for fault 0 files) in
    subst (λ (f : ClaimFault). IsStreamFault g.I.Source.left g.I.FileInput.behind c.args.input.now files f certificate) (sym c.in-Err-Faulty.fault-is) (
      0,
      known,
      text,
      record {
        claims = claims;
        claimed = AreClaimsOf-held certificate claims c.in_ok-table.table h;
        found = c.in-Err-Faulty.ensures.faulty claims fault known h.tabled (ap Err c.in-Err-Faulty.field-0-is);
      },
    )
