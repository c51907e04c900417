-- One vertex more is made.
use Rattle.std.proofs.Common.{ℕ, length, ap, arith}
use Rattle.kc_journal.proofs.Restarting.{one-further}
use Rattle.kc_journal.proofs.renewal.numbers_and_order.Goals as goal

pub loop-i-preserved : goal.loop-i-preserved
loop-i-preserved c =
    one-further _ c.loop-i.invariant c.loop-i-test.true c.in_ok-push.ensures.items c.in_ok-push-2.ensures.items
    (omega (arith, c.requires.more, ap (length {A = ℕ}) c.core-old.ensures, c.loop-i-test.true))
