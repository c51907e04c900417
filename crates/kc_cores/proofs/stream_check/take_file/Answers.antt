-- What the input has left is the file that was opened.
use Rattle.std.proofs.Common.{◌≡◌, ◌∙◌, List, None, Option, Some, IfOk, IfSome, ℕ, refl, subst, sym}
use Rattle.std.proofs.lemmas.Result.{IfErr-weaker, on_ok_weaker}
use Rattle.kc_claims.specs.Pieces.{HasTakenText, with_piece}
use Rattle.kc_claims.specs.Streams.{IsFaultOfStream}
use Rattle.kc_claims.specs.declared.fault.ClaimFault.TheVariants as claim_fault
use Rattle.kc_cores.specs.Endings.{NoPieceFor, line_of}
use Rattle.kc_cores.specs.declared.CoresStatus.{CoresStatus}
use Rattle.kc_cores.proofs.StreamChecking.{NoPieceFor-same}
use Rattle.kc_cores.proofs.stream_check.take_file.Goals as goal

pub returns-in-Ok-clause-taken : goal.returns-in-Ok-clause-taken
returns-in-Ok-clause-taken g c = λ claims before h.
    subst (λ (k : Option (List ℕ)). IfOk c.take_left.result (λ found. found ≡ None → HasTakenText claims (with_piece before k) c.take_left.new.check))
    c.in-Ok.ensures.bytes (c.take_left.ensures.taken claims before h)

pub returns-in-Ok-clause-unclaimed : goal.returns-in-Ok-clause-unclaimed
returns-in-Ok-clause-unclaimed g c = λ claims before h.
    subst (λ (k : Option (List ℕ)). IfOk c.take_left.result
    (λ found. IfSome found (λ id. IsFaultOfStream claims (claim_fault.Missing id) (with_piece before k))))
    c.in-Ok.ensures.bytes (c.take_left.ensures.unclaimed claims before h)

pub returns-in-Ok-clause-faultless : goal.returns-in-Ok-clause-faultless
returns-in-Ok-clause-faultless g c = on_ok_weaker c.take_left.result (λ h. h ∙ c.in-Ok.ensures.cause.kept) c.take_left.ensures.faultless

pub returns-in-Ok-clause-stopped : goal.returns-in-Ok-clause-stopped
returns-in-Ok-clause-stopped g c = λ claims before h.
    IfErr-weaker c.take_left.result _ _
    (λ ending none.
    NoPieceFor-same ending.status (line_of ending) c.args.several c.args.several (Some c.args.name.now) (Some c.args.name.now) claims before _ _ _ _ _ refl
    refl c.in-Ok.ensures.bytes c.in-Ok.ensures.cause.kept none)
    (c.take_left.ensures.stopped claims before h)

pub returns-in-Err-clause-stopped : goal.returns-in-Err-clause-stopped
returns-in-Err-clause-stopped g c = λ claims before h.
    subst (λ (e : CoresStatus). NoPieceFor e (line_of c.unopened.result) c.args.several (Some c.args.name.now) claims before
    (g.I.FileInput.behind c.args.input.now c.args.name.now) (g.I.Source.faults c.args.input.now) (g.I.Source.faults c.open.new.self))
    (sym c.unopened.ensures.status) (c.args.name.now, c.in-Err.fault, refl, c.unopened.ensures.line, c.in-Err.ensures.cause.failed)
