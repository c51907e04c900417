-- The line tells what the updates did, and of the graph after them.
use Rattle.kc_watch.proofs.Entering.{batch-line-is}
use Rattle.kc_watch.proofs.kept.Kept.line.Goals as goal

pub returns : goal.returns
returns c g batch are =
    batch-line-is c.args.number g batch c.args.effects c.args.self.now.keeper.graph c.edges.result c.top.result are c.edges.ensures c.top.ensures
