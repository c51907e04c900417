-- What was taken of the lines is what the write tells.
use Rattle.std.proofs.Common.{◌≡◌, ◌∙◌, Bool, Result, Ok, Err, subst, sym}
use Rattle.std.specs.Prelude.{IfErr, string_bytes}
use Rattle.std.specs.Result.{IsErrAnd}
use Rattle.kc_read.proofs.Outcomes.{at_err, at_ok}
use Rattle.kc_wishes.specs.Requests.{query_of}
use Rattle.kc_cores.specs.Endings.{CutAt, line_of}
use Rattle.kc_cores.specs.Listings.{made_text}
use Rattle.kc_cores.proofs.Ended.{CoresEnded-cut, CoresEnded-done, CoresEnded-no_graph}
use Rattle.kc_cores.proofs.answer.follow.Goals as goal

-- what holds of an error holds where it was passed on
passed : {T E : Type 0} (r : Result T E) (x : E) (P : E → Type 0) → IsErrAnd r (λ e. e ≡ x) → P x → IfErr r P
passed (Ok v) x P is p = tt
passed (Err e) x P is p = subst P (sym is) p

pub returns-in_err-lines-clause-stopped : goal.returns-in_err-lines-clause-stopped
returns-in_err-lines-clause-stopped g c =
    passed c.from_residual.result c.in_err-lines.field-0.0 _ c.from_residual.ensures.1
    (CoresEnded-no_graph g.I.Source g.I.FileInput.behind g.O.Sink g.O.PipeSink.gone (query_of c.args.request) c.in_err-lines.field-0.0.status
    (line_of c.in_err-lines.field-0.0) c.args.streams.now.input c.prepare.new.input c.args.streams.now.out c.in_err-lines.ensures.stopped)

pub returns-then-is_err-clause-stopped : goal.returns-then-is_err-clause-stopped
returns-then-is_err-clause-stopped g c =
    let error = sym c.is_err.ensures.value ∙ c.if-is_err.true in
    let ended = CoresEnded-cut g.I.Source g.I.FileInput.behind g.O.Sink g.O.PipeSink.gone (query_of c.args.request)
    (made_text c.in_ok-lines.field-0.lines) (string_bytes c.in_ok-lines.field-0.told) c.cut.result.status (line_of c.cut.result)
    c.args.streams.now.input c.prepare.new.input c.args.streams.now.out c.write.new.out c.in_ok-lines.ensures.answer
    c.in_ok-lines.ensures.faultless (at_err c.write.result c.write.ensures.prefix error)
    (at_err c.write.result c.write.ensures.cause.failed error) in
    ended (subst (λ (b : Bool). CutAt c.cut.result.status (line_of c.cut.result) b) c.is_reader_gone.ensures c.cut.ensures)

pub returns-clause-done : goal.returns-clause-done
returns-clause-done g c =
    let no_error = sym c.is_err.ensures.value ∙ c.if-is_err.false in
    CoresEnded-done g.I.Source g.I.FileInput.behind g.O.Sink g.O.PipeSink.gone (query_of c.args.request)
    (made_text c.in_ok-lines.field-0.lines) (string_bytes c.in_ok-lines.field-0.told) c.args.streams.now.input c.prepare.new.input
    c.args.streams.now.out c.write.new.out c.in_ok-lines.ensures.answer c.in_ok-lines.ensures.read c.in_ok-lines.ensures.faultless
    (at_ok c.write.result c.write.ensures.whole no_error) (at_ok c.write.result c.write.ensures.cause.kept no_error)
