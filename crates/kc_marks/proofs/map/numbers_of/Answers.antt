-- The entry that is come to is numbered after all those behind it, so a vertex keeps the number of its first.
use Rattle.std.proofs.Common.{◌-◌, arith}
use Rattle.kc_marks.specs.Sparse.{number_at}
use Rattle.kc_marks.proofs.Entries.{numbers-from}
use Rattle.kc_marks.proofs.map.numbers_of.Goals as goal

pub loop-i-preserved : goal.loop-i-preserved
loop-i-preserved g c =
    let one = c.in_ok-set.ensures.ok in
    numbers-from c.args.entries.now (c.loop-i.i - 1) c.loop-i.i c.index-entries-i.result (number_at c.loop-i.numbers) (number_at c.set.new.self)
    (omega arith) (omega arith) c.loop-i.invariant one.here one.others
