-- The answer of the arcs, in the words of what the pass has seen.
use Rattle.std.proofs.Common.{ap}
use Rattle.kc_table.specs.Log.{PassSeen}
use Rattle.kc_topo.proofs.Since.{added-since, refused-since}
use Rattle.kc_topo.proofs.dag.LockedArcs.add.Goals as goal

pub returns-clause-added : goal.returns-clause-added
returns-clause-added c d =
    added-since _ _ c.K.Name.opened.table d.args.pass.now.log d.add.new.pass.log d.args.a d.args.b d.args.self.now.of_table
    d.add.ensures.table d.add.ensures.longer
    (ap (λ (p : PassSeen). p.log) d.add.ensures.pass) d.add.result d.add.ensures.added

pub returns-clause-refused : goal.returns-clause-refused
returns-clause-refused c d =
    refused-since _ _ c.K.Name.opened.table d.args.pass.now.log d.add.new.pass.log d.args.a d.args.b d.args.self.now.of_table
    d.add.ensures.table d.add.ensures.longer
    (ap (λ (p : PassSeen). p.log) d.add.ensures.pass) d.add.result d.add.ensures.unchanged d.add.ensures.refused
