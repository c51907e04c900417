-- A section has begun, so the vertex may be put; the put leaves the words of the vertices.
use Rattle.std.proofs.Common.{◌<◌, ap, arith, subst, ◌∙◌}
use Rattle.kc_words.specs.declared.shape.Shape.{Shape}
use Rattle.kc_table.specs.Legal.{MayPut}
use Rattle.kc_table.specs.Log.{Seen, TableName}
use Rattle.kc_table.specs.TableState.{state_of}
use Rattle.kc_agree_tests.proofs.Sections.{may_put, next_entry-entered, same_stamp}
use Rattle.kc_agree_tests.proofs.histories.enter_and_put.Goals as goal

pub put_after-requires-clause-section : goal.put_after-requires-clause-section
put_after-requires-clause-section g c = λ low.
    let old : Seen = c.args.writer.now in
    let new : Seen = c.note_enter.new.self in
    let h = c.note_enter.ensures in
    let shape = ap (λ (t : TableName). t.shape) c.requires.table in
    let table = ap (λ (s : Seen). s.table.shape) h.stored.noted.is ∙ shape in
    subst (λ (s : Shape). MayPut s (state_of new.table.shape new.table.opening new.log) c.args.section.v) table
    (may_put old new _ _ _ c.args.section.v (omega (arith, low, ap (λ (s : Shape). s.fixed) shape)) h.stored h.leaves)

pub returns-clause-stamp : goal.returns-clause-stamp
returns-clause-stamp g c =
    let old : Seen = c.args.writer.now in
    let new : Seen = c.note_enter.new.self in
    let end : Seen = c.put_after.new.self in
    let h = c.note_enter.ensures in
    let shape = ap (λ (t : TableName). t.shape) c.requires.table in
    let low : c.args.section.v < old.table.shape.fixed = omega (arith, c.requires.shape.1, ap (λ (s : Shape). s.fixed) shape) in
    let e = next_entry-entered old new _ _ _ c.args.section.v low h.stored h.leaves in
    omega (arith, e.0, e.1, c.requires.next, same_stamp new end c.args.section.v (c.put_after.ensures.leaves.words_are c.args.section.v))
