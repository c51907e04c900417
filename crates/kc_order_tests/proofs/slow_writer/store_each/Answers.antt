-- The log with the next store is a front of the whole log, which is legal, so it is legal too and its word is in the table.
use Rattle.std.proofs.Common.{ap, ◌∙◌}
use Rattle.kc_list.specs.Writes.{Write}
use Rattle.kc_table.specs.Log.{Seen}
use Rattle.kc_order.proofs.Writing.{next-legal, next-there, stores-more}
use Rattle.kc_order_tests.proofs.slow_writer.store_each.Goals as goal

pub store-requires-clause-word : goal.store-requires-clause-word
store-requires-clause-word c = rw (c.word.ensures, c.write-item.is)
    (next-there c.args.seat.now c.args.writes.now c.loop-write.write-index c.write-item.result c.loop-write-test.true
    c.requires.legal c.args.words.now c.requires.table)

pub store-requires-clause-legal : goal.store-requires-clause-legal
store-requires-clause-legal c = rw (c.word.ensures, c.value.ensures, c.write-item.is)
    (next-legal c.args.seat.now c.loop-write.seat c.args.writes.now c.loop-write.write-index c.write-item.result
    c.loop-write-test.true c.loop-write.invariant.0 c.loop-write.invariant.1 c.requires.legal)

pub loop-write-preserved : goal.loop-write-preserved
loop-write-preserved c =
    let i = c.loop-write.write-index in
    let d : Write = c.write-item.result in (
      ap (λ (s : Seen). s.table) c.store.ensures ∙ c.loop-write.invariant.0,
      ap (λ (s : Seen). s.log) c.store.ensures
          ∙ rw (c.word.ensures, c.value.ensures, c.write-item.is)
          (stores-more c.args.seat.now.log c.loop-write.seat.log c.args.writes.now i d c.loop-write-test.true c.loop-write.invariant.1),
    )
