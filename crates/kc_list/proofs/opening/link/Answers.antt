-- The places that were pushed are those before the next, which is not among them.
use Rattle.std.proofs.Common.{ap, ◌∙◌, get_or, arith}
use Rattle.kc_lists.specs.Lists.{member}
use Rattle.kc_lists.proofs.Counting.{take-not_here, member-get_or}
use Rattle.kc_list.proofs.opening.link.Goals as goal

pub push_back-requires-clause-x_out : goal.push_back-requires-clause-x_out
push_back-requires-clause-x_out c = ap (member (get_or c.args.order.now c.loop-x.x-index 0)) c.loop-x.invariant.1
    ∙ take-not_here c.loop-x.x-index c.args.order.now c.loop-x-test.true c.requires.distinct

pub push_back-requires-clause-x_within : goal.push_back-requires-clause-x_within
push_back-requires-clause-x_within c =
    omega (
      arith,
      c.requires.within (get_or c.args.order.now c.loop-x.x-index 0) (member-get_or c.args.order.now c.loop-x.x-index 0 c.loop-x-test.true),
      c.loop-x.invariant.0,
    )
