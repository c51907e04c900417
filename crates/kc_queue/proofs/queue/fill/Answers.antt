-- The one consumer has all parts, so the next number may be put, and the queue has room for it.
use Rattle.std.proofs.Common.{◌<◌, ap, sym, subst, arith}
use Rattle.kc_queue.specs.declared.dealing.Hand.{Hand}
use Rattle.kc_queue.proofs.Steps.{number-joins, holds_all, has_room}
use Rattle.kc_queue.proofs.queue.fill.Goals as goal

pub push_as-requires-clause-rule : goal.push_as-requires-clause-rule
push_as-requires-clause-rule g c =
    let is = c.loop-number.invariant.1 in
    let all = ap (λ (v : Hand). v.parts) is in
    (number-joins _ _ _ _ all (sym (ap (λ (v : Hand). v.filled) is)), holds_all _ _ (omega arith))

pub unreachable-requires : goal.unreachable-requires
unreachable-requires g c =
    let more = subst (λ n. c.loop-number.number < n) (sym c.requires.room) c.loop-number-test.true in
    has_room _ _ c.loop-number.number c.loop-number.invariant.1 more c.in_default.ensures.rule.2
