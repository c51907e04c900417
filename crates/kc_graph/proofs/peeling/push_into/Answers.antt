-- Only the bucket `b` changes, which gets longer by `w`.
use Rattle.std.proofs.Common.{arith}
use Rattle.kc_graph.proofs.Buckets.{bucket-pushed}
use Rattle.kc_graph.proofs.peeling.push_into.Goals as goal

pub returns : goal.returns
returns c = bucket-pushed c.args.buckets.now c.args.b c.args.w c.index-buckets-b.result c.push.new.self (omega arith) c.in_ok-push.ensures.items
