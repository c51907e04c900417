-- There is no verdict, or no was said, or yes.
use Rattle.std.proofs.Common.{refl}
use Rattle.kc_wishes.specs.Requests.{text_of}
use Rattle.kc_cores.proofs.Checked.{CheckEnded-no_verdict, CheckEnded-right, CheckEnded-wrong}
use Rattle.kc_cores.proofs.answer.check.Goals as goal

pub returns-in-Err-clause-ended : goal.returns-in-Err-clause-ended
returns-in-Err-clause-ended g c =
    CheckEnded-no_verdict g.I.Source g.I.FileInput.behind g.C.Source g.C.FileInput.behind g.O.Sink c.args.request.certificate.now
    (text_of c.args.request.graph) c.in-Err.ending c.args.streams.now.input c.verdict_on.new.input c.args.streams.now.certificate
    c.verdict_on.new.certificate c.args.streams.now.out c.in-Err.ensures.stopped

pub returns-in-Ok-Some-clause-ended : goal.returns-in-Ok-Some-clause-ended
returns-in-Ok-Some-clause-ended g c =
    let wrong = rw c.in-Ok-Some.field-0-is at c.in-Ok-Some.ensures.wrong in
    CheckEnded-wrong g.I.Source g.I.FileInput.behind g.C.Source g.C.FileInput.behind g.O.Sink c.args.request.certificate.now
    (text_of c.args.request.graph) c.args.streams.now.input c.verdict_on.new.input c.args.streams.now.certificate c.verdict_on.new.certificate
    c.args.streams.now.out c.refute.new.out c.in-Ok-Some.ensures.faultless.0 c.in-Ok-Some.ensures.faultless.1 c.refute.result c.in-Ok-Some.fault
    wrong c.refute.ensures

pub returns-in-Ok-None-clause-ended : goal.returns-in-Ok-None-clause-ended
returns-in-Ok-None-clause-ended g c =
    CheckEnded-right g.I.Source g.I.FileInput.behind g.C.Source g.C.FileInput.behind g.O.Sink c.args.request.certificate.now
    (text_of c.args.request.graph) c.args.streams.now.input c.verdict_on.new.input c.args.streams.now.certificate c.verdict_on.new.certificate
    c.args.streams.now.out c.say.new.out c.in-Ok-None.ensures.faultless.0 c.in-Ok-None.ensures.faultless.1 c.say.result _
    (c.in-Ok-None.ensures.right c.in-Ok-None.field-0-is) refl refl c.say.ensures
