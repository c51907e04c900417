-- A reply, a listing, a file, a check and the answer to a stream each end as the words ask for.
use Rattle.std.proofs.Common.{◌≡◌, ◌∙◌, Option, None, Some, map, refl, sym}
use Rattle.kc_wishes.specs.Requests.{query_of, stream_of_request, text_of}
use Rattle.kc_wishes.specs.Wishes.{SavingPlan, wish_of}
use Rattle.kc_cores.specs.Endings.{line_of}
use Rattle.kc_cores.specs.Saved.{RunEnded}
use Rattle.kc_cores.proofs.Replaced.{RunEnded-asked, RunEnded-reply, RunEnded-save, RunEnded-watch, Watches-one, not_saved, not_watched, unsaved-alone}
use Rattle.kc_cores.proofs.Checked.{EndsAsAsked-check, EndsAsAsked-lines, EndsAsAsked-reply, EndsAsAsked-stream, EndsAsAsked-watch}
use Rattle.kc_cores.proofs.answer.work.Goals as goal

pub returns-in-Err-clause-ended : goal.returns-in-Err-clause-ended
returns-in-Err-clause-ended g c =
    let ended =
    EndsAsAsked-reply g.I.Source g.I.FileInput.behind g.C.Source g.C.FileInput.behind g.O.Sink g.O.PipeSink.gone
    g.L.Wire (wish_of (map g.W.AsStr.text c.args.words.now)) c.in-Err.reply c.show.result.status (line_of c.show.result) c.args.streams.now.input
    c.show.new.streams.input c.args.streams.now.certificate c.show.new.streams.certificate c.args.streams.now.out c.show.new.streams.out
    c.args.streams.now.wire c.show.new.streams.wire c.in-Err.ensures.replies
    (c.show.ensures.ended (wish_of (map g.W.AsStr.text c.args.words.now)) c.in-Err.ensures.replies) c.show.ensures.certificate
    c.show.ensures.wire c.show.ensures.memory in
    RunEnded-reply g.I.Source g.I.FileInput.behind g.P.Folder.holds g.P.Folder.failed g.C.Source g.C.FileInput.behind g.O.Sink g.O.PipeSink.gone g.L.Wire
    (wish_of (map g.W.AsStr.text c.args.words.now)) c.in-Err.reply c.show.result.status (line_of c.show.result) c.args.streams.now.input
    c.show.new.streams.input
    c.args.streams.now.certificate c.show.new.streams.certificate c.args.streams.now.out c.show.new.streams.out c.args.streams.now.wire c.show.new.streams.wire
    c.args.folder.now c.args.folder.now c.in-Err.ensures.replies ended c.show.ensures.certificate c.show.ensures.wire refl c.show.ensures.memory

pub returns-in-Ok-Lines-clause-ended : goal.returns-in-Ok-Lines-clause-ended
returns-in-Ok-Lines-clause-ended g c =
    let asks = rw c.in-Ok-Lines.field-0-is at c.in-Ok-Lines.ensures.asks in
    let ended =
    EndsAsAsked-lines g.I.Source g.I.FileInput.behind g.C.Source g.C.FileInput.behind g.O.Sink g.O.PipeSink.gone
    g.L.Wire (wish_of (map g.W.AsStr.text c.args.words.now)) (query_of c.in-Ok-Lines.request) c.list.result.status
    (line_of c.list.result) c.args.streams.now.input c.list.new.streams.input c.args.streams.now.certificate c.list.new.streams.certificate
    c.args.streams.now.out c.list.new.streams.out c.args.streams.now.wire c.list.new.streams.wire asks c.list.ensures.ended
    c.list.ensures.certificate c.list.ensures.wire in
    RunEnded-asked g.I.Source g.I.FileInput.behind g.P.Folder.holds g.P.Folder.failed g.C.Source g.C.FileInput.behind g.O.Sink g.O.PipeSink.gone g.L.Wire
    (wish_of (map g.W.AsStr.text c.args.words.now)) c.list.result.status (line_of c.list.result) c.args.streams.now.input c.list.new.streams.input
    c.args.streams.now.certificate c.list.new.streams.certificate c.args.streams.now.out c.list.new.streams.out c.args.streams.now.wire c.list.new.streams.wire
    c.args.folder.now c.args.folder.now (not_saved _ _ asks (λ name query e. absurd (cc)))
    (not_watched _ _ asks (λ query e. absurd (cc))) ended refl

pub returns-in-Ok-Save-clause-ended : goal.returns-in-Ok-Save-clause-ended
returns-in-Ok-Save-clause-ended g c =
    let asks = rw c.in-Ok-Save.field-0-is at c.in-Ok-Save.ensures.asks in
    RunEnded-save g.I.Source g.I.FileInput.behind g.P.Folder.holds g.P.Folder.failed g.C.Source g.C.FileInput.behind g.O.Sink g.O.PipeSink.gone g.L.Wire
    (wish_of (map g.W.AsStr.text c.args.words.now)) c.in-Ok-Save.request.file.now (query_of c.in-Ok-Save.request.lines) c.save.result.status
    (line_of c.save.result) c.args.streams.now.input c.save.new.input c.args.streams.now.certificate c.args.streams.now.certificate
    c.args.streams.now.out c.args.streams.now.out c.args.streams.now.wire c.args.streams.now.wire c.args.folder.now c.save.new.folder
    asks c.save.ensures refl refl refl

pub returns-in-Ok-Check-clause-ended : goal.returns-in-Ok-Check-clause-ended
returns-in-Ok-Check-clause-ended g c =
    let asks = rw c.in-Ok-Check.field-0-is at c.in-Ok-Check.ensures.asks in
    let ended =
    EndsAsAsked-check g.I.Source g.I.FileInput.behind g.C.Source g.C.FileInput.behind g.O.Sink g.O.PipeSink.gone
    g.L.Wire (wish_of (map g.W.AsStr.text c.args.words.now)) c.in-Ok-Check.request.certificate.now (text_of c.in-Ok-Check.request.graph) c.check.result.status
    (line_of c.check.result) c.args.streams.now.input c.check.new.streams.input c.args.streams.now.certificate c.check.new.streams.certificate
    c.args.streams.now.out c.check.new.streams.out c.args.streams.now.wire c.check.new.streams.wire asks c.check.ensures.ended
    c.check.ensures.wire in
    RunEnded-asked g.I.Source g.I.FileInput.behind g.P.Folder.holds g.P.Folder.failed g.C.Source g.C.FileInput.behind g.O.Sink g.O.PipeSink.gone g.L.Wire
    (wish_of (map g.W.AsStr.text c.args.words.now)) c.check.result.status (line_of c.check.result) c.args.streams.now.input c.check.new.streams.input
    c.args.streams.now.certificate c.check.new.streams.certificate c.args.streams.now.out c.check.new.streams.out c.args.streams.now.wire
    c.check.new.streams.wire
    c.args.folder.now c.args.folder.now (not_saved _ _ asks (λ name query e. absurd (cc)))
    (not_watched _ _ asks (λ query e. absurd (cc))) ended refl

pub returns-in-Ok-CheckStream-clause-ended : goal.returns-in-Ok-CheckStream-clause-ended
returns-in-Ok-CheckStream-clause-ended g c =
    let asks = rw c.in-Ok-CheckStream.field-0-is at c.in-Ok-CheckStream.ensures.asks in
    let ended =
    EndsAsAsked-stream g.I.Source g.I.FileInput.behind g.C.Source g.C.FileInput.behind g.O.Sink g.O.PipeSink.gone
    g.L.Wire (wish_of (map g.W.AsStr.text c.args.words.now)) c.in-Ok-CheckStream.request.certificate.now
    (map (λ name. name.now) c.in-Ok-CheckStream.request.files.items) c.check_stream.result.status
    (line_of c.check_stream.result) c.args.streams.now.input c.check_stream.new.streams.input c.args.streams.now.certificate
    c.check_stream.new.streams.certificate c.args.streams.now.out c.check_stream.new.streams.out c.args.streams.now.wire
    c.check_stream.new.streams.wire asks c.check_stream.ensures.ended c.check_stream.ensures.wire in
    RunEnded-asked g.I.Source g.I.FileInput.behind g.P.Folder.holds g.P.Folder.failed g.C.Source g.C.FileInput.behind g.O.Sink g.O.PipeSink.gone g.L.Wire
    (wish_of (map g.W.AsStr.text c.args.words.now)) c.check_stream.result.status (line_of c.check_stream.result) c.args.streams.now.input
    c.check_stream.new.streams.input c.args.streams.now.certificate c.check_stream.new.streams.certificate c.args.streams.now.out
    c.check_stream.new.streams.out c.args.streams.now.wire c.check_stream.new.streams.wire
    c.args.folder.now c.args.folder.now (not_saved _ _ asks (λ name query e. absurd (cc)))
    (not_watched _ _ asks (λ query e. absurd (cc))) ended refl

pub returns-in-Ok-Watch-clause-ended : goal.returns-in-Ok-Watch-clause-ended
returns-in-Ok-Watch-clause-ended g c =
    let asks = rw c.in-Ok-Watch.field-0-is at c.in-Ok-Watch.ensures.asks in
    let query = stream_of_request c.in-Ok-Watch.request in
    elim query.save as (λ (s : Option SavingPlan). query.save ≡ s → RunEnded g.I.Source g.I.FileInput.behind g.C.Source g.C.FileInput.behind g.O.Sink
    g.O.PipeSink.gone g.L.Wire g.P.Folder.holds g.P.Folder.failed (wish_of (map g.W.AsStr.text c.args.words.now)) c.answer_stream.result.status
    (line_of c.answer_stream.result) c.args.streams.now.input c.answer_stream.new.streams.input c.args.streams.now.certificate
    c.answer_stream.new.streams.certificate c.args.streams.now.out c.answer_stream.new.streams.out c.args.streams.now.wire
    c.answer_stream.new.streams.wire c.args.folder.now c.answer_stream.new.folder) [
      | None ↦ λ unsaved.
          let (told, stays) = c.answer_stream.ensures.told unsaved in
          RunEnded-asked g.I.Source g.I.FileInput.behind g.P.Folder.holds g.P.Folder.failed g.C.Source g.C.FileInput.behind g.O.Sink g.O.PipeSink.gone
          g.L.Wire (wish_of (map g.W.AsStr.text c.args.words.now)) c.answer_stream.result.status (line_of c.answer_stream.result)
          c.args.streams.now.input c.answer_stream.new.streams.input c.args.streams.now.certificate c.answer_stream.new.streams.certificate
          c.args.streams.now.out c.answer_stream.new.streams.out c.args.streams.now.wire c.answer_stream.new.streams.wire c.args.folder.now
          c.answer_stream.new.folder (not_saved _ _ asks (λ name query e. absurd (cc)))
          (λ asked plan e saves. absurd (unsaved-alone query asked plan unsaved (Watches-one query asked (sym asks ∙ e)) saves))
          (EndsAsAsked-watch g.I.Source g.I.FileInput.behind g.C.Source g.C.FileInput.behind g.O.Sink g.O.PipeSink.gone g.L.Wire
          (wish_of (map g.W.AsStr.text c.args.words.now)) query c.answer_stream.result.status (line_of c.answer_stream.result)
          c.args.streams.now.input c.answer_stream.new.streams.input c.args.streams.now.certificate c.answer_stream.new.streams.certificate
          c.args.streams.now.out c.answer_stream.new.streams.out c.args.streams.now.wire c.answer_stream.new.streams.wire asks told
          c.answer_stream.ensures.certificate c.answer_stream.ensures.out) stays
      | Some plan ↦ λ saves.
          RunEnded-watch g.I.Source g.I.FileInput.behind g.P.Folder.holds g.P.Folder.failed g.C.Source g.C.FileInput.behind g.O.Sink g.O.PipeSink.gone
          g.L.Wire (wish_of (map g.W.AsStr.text c.args.words.now)) query plan c.answer_stream.result.status (line_of c.answer_stream.result)
          c.args.streams.now.input c.answer_stream.new.streams.input c.args.streams.now.certificate c.answer_stream.new.streams.certificate
          c.args.streams.now.out c.answer_stream.new.streams.out c.args.streams.now.wire c.answer_stream.new.streams.wire c.args.folder.now
          c.answer_stream.new.folder asks saves (c.answer_stream.ensures.saved plan saves) c.answer_stream.ensures.certificate c.answer_stream.ensures.out
    ] refl
