-- The row lies in the block.
use Rattle.std.proofs.Common.{arith}
use Rattle.kc_graph.proofs.Lying.{lies-view}
use Rattle.kc_graph.proofs.rows.Rows.get.Goals as goal

pub numbers-requires : goal.numbers-requires
numbers-requires c =
    lies-view _ _ c.self.inside.rows.items _ c.args.v _ c.deref.ensures.value c.self.invariant c.self.view_is (omega arith) c.index.ensures
