-- The bucket is set to an empty one.
use Rattle.std.proofs.Common.{ap, set, ◌∙◌}
use Rattle.kc_graph.specs.Rows.{lists}
use Rattle.kc_graph.proofs.Buckets.{lists-set}
use Rattle.kc_graph.proofs.peeling.empty.Goals as goal

pub returns : goal.returns
returns c = lists-set c.args.buckets.now c.args.b c.new.result ∙ ap (set (lists c.args.buckets.now) c.args.b) c.new.ensures.items
