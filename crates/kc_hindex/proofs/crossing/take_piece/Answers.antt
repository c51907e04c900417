-- One more number stands at its vertex.
use Rattle.std.proofs.Common.{inl, inr}
use Rattle.kc_hindex.proofs.TakingOver.{taken-more}
use Rattle.kc_hindex.proofs.crossing.take_piece.Goals.{then-take_number, else-take_number}
use Rattle.kc_hindex.proofs.crossing.take_piece.Goals as goal

pub loop-i-preserved : goal.loop-i-preserved
loop-i-preserved c =
    taken-more c.args.first c.args.step c.args.new.now c.loop-i.i c.args.numbers.now c.args.crossed.now c.loop-i.numbers c.loop-i.crossed c.loop-i.changed
    c.take_number.new.numbers c.take_number.new.crossed c.take_number.result c.if-take_number.changed c.requires.step
    (c.requires.within c.loop-i.i c.loop-i-test.true) (c.requires.falls c.loop-i.i c.loop-i-test.true) c.loop-i.invariant c.take_number.ensures.numbers
    c.take_number.ensures.marks c.take_number.ensures.crossed c.take_number.ensures.kept c.take_number.ensures.changed
    (elim c.if-take_number.branch [
      | then-take_number w ↦ inl (w.if-take_number.true, w.changed-is)
      | else-take_number w ↦ inr (w.if-take_number.false, w.changed-is)
    ])
