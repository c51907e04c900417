-- Where there is no memory, nothing more was read. Else the place of the vertex after the load is one answer more.
use Rattle.std.proofs.Common.{ap, ◌∙◌}
use Rattle.kc_graph.specs.declared.used.UsedPlace.{UsedPlace}
use Rattle.kc_view.specs.Answers.{with_place}
use Rattle.kc_view.specs.Memory.{Memory, keeping}
use Rattle.kc_agree.proofs.OneMore.{same_read, core_read, loaded_is}
use Rattle.kc_agree.proofs.reading.read_core.Goals as goal

pub returns-in_err-keep_place-clause-read : goal.returns-in_err-keep_place-clause-read
returns-in_err-keep_place-clause-read c = λ opened h.
    let before = c.args.pass.now in
    let after = c.load.new.pass in
    same_read before.table after.table opened before.log after.log c.args.memo.now.kept _ c.load.ensures.table c.load.ensures.longer
    (ap (λ (m : Memory). m.kept) c.in_err-keep_place.ensures.err) h

pub returns-clause-read : goal.returns-clause-read
returns-clause-read c = λ opened h.
    let before = c.args.pass.now in
    let after = c.load.new.pass in
    let place =
    loaded_is before.table after.table c.args.words.now c.shape.result after.log c.args.v c.vertex-word.result c.load.result c.of-stamp.result
    c.load.ensures.table c.requires.table c.shape.ensures c.vertex-word.ensures c.load.ensures.value c.of-stamp.ensures.fields in
    core_read before.table after.table c.args.words.now opened before.log after.log c.args.memo.now.kept _ c.args.v
    c.load.ensures.table c.requires.table c.requires.vertex c.load.ensures.longer
    (ap (λ (m : Memory). m.kept) c.in_ok-keep_place.ensures.ok ∙ ap (with_place c.args.memo.now.kept) place) c.requires.once h

pub returns-clause-told : goal.returns-clause-told
returns-clause-told c =
    let memo = c.args.memo.now in
    let after = c.load.new.pass in
    let place =
    loaded_is c.args.pass.now.table after.table c.args.words.now c.shape.result after.log c.args.v c.vertex-word.result c.load.result c.of-stamp.result
    c.load.ensures.table c.requires.table c.shape.ensures c.vertex-word.ensures c.load.ensures.value c.of-stamp.ensures.fields in
    c.in_ok-keep_place.ensures.ok ∙ ap (λ (p : UsedPlace). keeping memo.size (with_place memo.kept p)) place
