-- There is no verdict, or no was said, or yes.
use Rattle.std.proofs.Common.{List, map, refl, subst, ℕ}
use Rattle.std.specs.Borrow.{Bor}
use Rattle.kc_cores.specs.Endings.{line_of}
use Rattle.kc_cores.specs.StreamChecked.{StreamChecked}
use Rattle.kc_cores.proofs.StreamChecking.{StreamChecked-no_verdict, StreamChecked-right, StreamChecked-wrong}
use Rattle.kc_cores.proofs.stream_check.check_stream.Goals as goal

pub returns-in-Err-clause-ended : goal.returns-in-Err-clause-ended
returns-in-Err-clause-ended g c =
    subst (λ (fs : List (Bor (List ℕ))). StreamChecked g.I.Source g.I.FileInput.behind g.C.Source g.C.FileInput.behind g.O.Sink
    c.args.request.now.certificate.now (map (λ t. t.now) fs) c.in-Err.ending.status (line_of c.in-Err.ending) c.args.streams.now.input c.verdict_on.new.input
    c.args.streams.now.certificate c.verdict_on.new.certificate c.args.streams.now.out c.args.streams.now.out) c.deref.ensures.value
    (StreamChecked-no_verdict g.I.Source g.I.FileInput.behind g.C.Source g.C.FileInput.behind g.O.Sink c.args.request.now.certificate.now
    (map (λ t. t.now) c.deref.result.now) c.in-Err.ending c.args.streams.now.input c.verdict_on.new.input c.args.streams.now.certificate
    c.verdict_on.new.certificate c.args.streams.now.out c.in-Err.ensures.stopped)

pub returns-in-Ok-Some-clause-ended : goal.returns-in-Ok-Some-clause-ended
returns-in-Ok-Some-clause-ended g c =
    let wrong = rw c.in-Ok-Some.field-0-is at c.in-Ok-Some.ensures.wrong in
    subst (λ (fs : List (Bor (List ℕ))). StreamChecked g.I.Source g.I.FileInput.behind g.C.Source g.C.FileInput.behind g.O.Sink
    c.args.request.now.certificate.now (map (λ t. t.now) fs) c.refute.result.status (line_of c.refute.result) c.args.streams.now.input c.verdict_on.new.input
    c.args.streams.now.certificate c.verdict_on.new.certificate c.args.streams.now.out c.refute.new.out) c.deref.ensures.value
    (StreamChecked-wrong g.I.Source g.I.FileInput.behind g.C.Source g.C.FileInput.behind g.O.Sink c.args.request.now.certificate.now
    (map (λ t. t.now) c.deref.result.now) c.args.streams.now.input c.verdict_on.new.input c.args.streams.now.certificate
    c.verdict_on.new.certificate c.args.streams.now.out c.refute.new.out c.in-Ok-Some.ensures.faultless.0 c.in-Ok-Some.ensures.faultless.1
    c.refute.result c.in-Ok-Some.fault wrong c.refute.ensures)

pub returns-in-Ok-None-clause-ended : goal.returns-in-Ok-None-clause-ended
returns-in-Ok-None-clause-ended g c =
    subst (λ (fs : List (Bor (List ℕ))). StreamChecked g.I.Source g.I.FileInput.behind g.C.Source g.C.FileInput.behind g.O.Sink
    c.args.request.now.certificate.now (map (λ t. t.now) fs) c.say.result.status (line_of c.say.result) c.args.streams.now.input c.verdict_on.new.input
    c.args.streams.now.certificate c.verdict_on.new.certificate c.args.streams.now.out c.say.new.out) c.deref.ensures.value
    (StreamChecked-right g.I.Source g.I.FileInput.behind g.C.Source g.C.FileInput.behind g.O.Sink c.args.request.now.certificate.now
    (map (λ t. t.now) c.deref.result.now) c.args.streams.now.input c.verdict_on.new.input c.args.streams.now.certificate
    c.verdict_on.new.certificate c.args.streams.now.out c.say.new.out c.in-Ok-None.ensures.faultless.0 c.in-Ok-None.ensures.faultless.1 c.say.result _
    (c.in-Ok-None.ensures.right c.in-Ok-None.field-0-is) refl refl c.say.ensures)
