-- One update more is made, and told of.
use Rattle.kc_keeper.proofs.InTurn.{one-more}
use Rattle.kc_keeper.proofs.keeper.Keeper.make_all.Goals as goal

pub loop-made-preserved : goal.loop-made-preserved
loop-made-preserved c =
    one-more c.index-updates-made.result c.index-updates-made.result c.loop-made.invariant c.loop-made-test.true c.index-updates-made.is
    c.in-Ok.ensures.graph c.in-Ok.ensures.told c.in-Ok.ensures.earlier c.in-Ok.ensures.certified c.in-Ok.ensures.seidman
