-- Row `b` has the vertex at its end now, and no other row changes.
use Rattle.std.proofs.Common.{arith}
use Rattle.kc_graph.proofs.Buckets.{bucket-pushed}
use Rattle.kc_hindex.proofs.ordering.push_into.Goals as goal

pub returns : goal.returns
returns c = bucket-pushed c.args.rows.now c.args.b c.args.w c.index-rows-b.result c.push.new.self (omega arith) c.in_ok-push.ensures.items
