-- Two collects, one after the other.
use Rattle.kc_order.proofs.Comparing.{collect-compares}
use Rattle.kc_order.proofs.collect.precedes.Goals as goal

pub returns-in-Ok-clause-answer : goal.returns-in-Ok-clause-answer
returns-in-Ok-clause-answer c =
    let of = c.in-Ok.ensures in
    collect-compares c.args.pass.now c.first_collect.new.pass c.second_collect.new.pass c.args.x c.args.y c.second_collect.result c.in-Ok.collect
    of.is of.of of.begins of.ends of.steps c.second_collect.ensures.longer c.if-x-y.false c.second_collect.ensures.answer
