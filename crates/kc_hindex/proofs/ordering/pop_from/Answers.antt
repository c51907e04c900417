-- Row `b` was what is left of it with the popped vertex at its end, or it was empty; no other row changes.
use Rattle.std.proofs.Common.{arith}
use Rattle.kc_graph.proofs.Buckets.{some_popped, none_popped}
use Rattle.kc_hindex.proofs.ordering.pop_from.Goals as goal

pub returns-clause-some : goal.returns-clause-some
returns-clause-some c = some_popped c.args.rows.now c.args.b c.index-rows-b.result c.pop.new.self c.pop.result (omega arith) c.pop.ensures.items

pub returns-clause-none : goal.returns-clause-none
returns-clause-none c =
    none_popped c.args.rows.now c.args.b c.index-rows-b.result c.pop.new.self c.pop.result (omega arith) c.pop.ensures.items
    c.pop.ensures.cases
