-- In a state of which the answers are true both numbers that were told are the ends' core numbers, and the level is the lesser.
use Rattle.std.proofs.Common.{◌≡◌, get_or, arith}
use Rattle.kc_view.proofs.Keeping.{answers-agreed}
use Rattle.kc_remove.proofs.Coming.{told-core}
use Rattle.kc_remove.proofs.removal.level_of.Goals as goal

pub returns-clause-told : goal.returns-clause-told
returns-clause-told g c = λ s a.
    let u = c.in_ok-first.ensures in
    let v = c.in_ok-second.ensures in
    let one : c.in_ok-first.first ≡ get_or s.core c.args.update.u 0 =
    told-core _ _ s _ _ (answers-agreed _ _ s c.core_of-2.ensures.goes_on.further a) u.told u.core in
    let two : c.in_ok-second.second ≡ get_or s.core c.args.update.v 0 = told-core _ _ s _ _ a v.told v.core in
    omega (arith, one, two, c.min.ensures)
