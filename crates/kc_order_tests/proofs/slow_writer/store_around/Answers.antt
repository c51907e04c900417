-- A front of stores that are legal together is legal, and the rest is legal after it: so for each of the three parts.
use Rattle.kc_order_tests.proofs.StoredParts.{front-legal, back-legal}
use Rattle.kc_order_tests.proofs.slow_writer.store_around.Goals as goal

pub store_each-requires-clause-legal : goal.store_each-requires-clause-legal
store_each-requires-clause-legal c =
    front-legal c.args.seat.now c.args.stores.now c.split_at.result.0.now c.args.cut.first c.split_at.ensures.front c.requires.legal

pub store_each-requires-2-clause-legal : goal.store_each-requires-2-clause-legal
store_each-requires-2-clause-legal c =
    let rest =
    back-legal c.args.seat.now c.store_each.new.seat c.args.stores.now c.split_at.result.0.now c.split_at.result.1.now c.args.cut.first
    c.split_at.ensures.front c.split_at.ensures.back c.store_each.ensures c.requires.legal in
    front-legal c.store_each.new.seat c.split_at.result.1.now c.split_at-2.result.0.now _ c.split_at-2.ensures.front rest

pub store_each-requires-3-clause-legal : goal.store_each-requires-3-clause-legal
store_each-requires-3-clause-legal c =
    let rest =
    back-legal c.args.seat.now c.store_each.new.seat c.args.stores.now c.split_at.result.0.now c.split_at.result.1.now c.args.cut.first
    c.split_at.ensures.front c.split_at.ensures.back c.store_each.ensures c.requires.legal in
    back-legal c.store_each.new.seat c.store_each-2.new.seat c.split_at.result.1.now c.split_at-2.result.0.now c.split_at-2.result.1.now _
    c.split_at-2.ensures.front c.split_at-2.ensures.back c.store_each-2.ensures rest
