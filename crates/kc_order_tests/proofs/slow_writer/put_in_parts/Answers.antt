-- The plain list's writes, with the note before the last, are a put's stores, so they may be made one by one and end as the put.
use Rattle.std.proofs.Common.{◌∙◌, sym, ap, subst, arith}
use Rattle.kc_words.specs.NoteWord.{note_word}
use Rattle.kc_words.specs.declared.note.NoteWord.TheVariants.{Put}
use Rattle.kc_table.specs.Legal.{Legal}
use Rattle.kc_table.specs.Log.{Seen}
use Rattle.kc_order_tests.proofs.StoredParts.{with-note}
use Rattle.kc_order.proofs.Writing.{Wrote, highest-at, put-fits, put-at}
use Rattle.kc_order_tests.proofs.slow_writer.put_in_parts.Goals as goal

pub put_after-requires-clause-versions : goal.put_after-requires-clause-versions
put_after-requires-clause-versions g c =
    highest-at c.writer.inside.seat c.args.writer.now c.writer.inside.plain c.writer.view_is c.writer.invariant c.requires.versions

pub with_note-requires-clause-fitting : goal.with_note-requires-clause-fitting
with_note-requires-clause-fitting g c =
    put-fits c.args.writer.now c.args.words.now c.args.put.0 c.args.put.1
    (subst (λ (s : Seen). Legal s.table.shape s.table.opening s.log) c.writer.view_is c.writer.invariant.legal) c.requires.table.0
    c.requires.x_in c.requires.p_in

pub store_around-answer-requires-clause-legal : goal.store_around-answer-requires-clause-legal
store_around-answer-requires-clause-legal g c =
    let e = c.put_after.ensures in
    let w : Wrote c.writer.inside.seat c.put_after.new.self (note_word (Put c.args.put.0 c.args.put.1)) c.args.put.0 c.writes.result.now =
    put-at c.writer.inside.seat c.args.writer.now c.args.words.now c.writer.inside.plain c.put_after.new.self c.args.put.0 c.args.put.1
    c.writes.result.now c.writer.view_is c.requires.table.0 c.writer.invariant c.requires.versions c.requires.x_in c.requires.p_in
    c.requires.differ (λ l. absurd (omega (arith, l, c.requires.free))) c.writes.ensures e.items e.fixed e.list e.written e.highest in
    subst (Legal c.writer.inside.seat.table.shape c.writer.inside.seat.table.opening)
    (sym
    (with-note c.writer.inside.seat.log c.writes.result.now c.as_slice.result.now c.in-Ok.stores.items
    (note_word (Put c.args.put.0 c.args.put.1)) c.as_slice.ensures.value c.in-Ok.ensures))
    w.legal_.all

pub invariant_of-writer : goal.invariant_of-writer
invariant_of-writer g c =
    let e = c.put_after.ensures in
    let w : Wrote c.writer.inside.seat c.put_after.new.self (note_word (Put c.args.put.0 c.args.put.1)) c.args.put.0 c.writes.result.now =
    put-at c.writer.inside.seat c.args.writer.now c.args.words.now c.writer.inside.plain c.put_after.new.self c.args.put.0 c.args.put.1
    c.writes.result.now c.writer.view_is c.requires.table.0 c.writer.invariant c.requires.versions c.requires.x_in c.requires.p_in
    c.requires.differ (λ l. absurd (omega (arith, l, c.requires.free))) c.writes.ensures e.items e.fixed e.list e.written e.highest in
    let whole =
    with-note c.writer.inside.seat.log c.writes.result.now c.as_slice.result.now c.in-Ok.stores.items
    (note_word (Put c.args.put.0 c.args.put.1)) c.as_slice.ensures.value c.in-Ok.ensures in
    w.tied c.store_around-answer.new.seat (c.store_around-answer.ensures.seat ∙ ap (λ z. record { table = c.writer.inside.seat.table; log = z }) whole)
