-- First the labels that grow, from the last place on, then those that shrink, from the first on.
use Rattle.std.proofs.Common.{arith}
use Rattle.kc_relabel.proofs.Rising.{all-rise}
use Rattle.kc_relabel.proofs.Once.{schedule-once, schedule-below}
use Rattle.kc_relabel.proofs.Differing.{schedule-differs, differs-schedule}
use Rattle.kc_relabel.proofs.scheduling.schedule.Goals as goal

pub returns-clause-rises : goal.returns-clause-rises
returns-clause-rises c = (all-rise c.args.old.now c.args.new.now c.list_shrinking.new.out c.list_shrinking.result (omega arith) c.requires.old_rises
    c.requires.new_rises (λ i. omega (arith, c.type_inv.old i)) (λ i. omega (arith, c.type_inv.new i)) c.list_shrinking.ensures.front).0

pub returns-clause-done : goal.returns-clause-done
returns-clause-done c = (all-rise c.args.old.now c.args.new.now c.list_shrinking.new.out c.list_shrinking.result (omega arith) c.requires.old_rises
    c.requires.new_rises (λ i. omega (arith, c.type_inv.old i)) (λ i. omega (arith, c.type_inv.new i)) c.list_shrinking.ensures.front).1

pub returns-clause-once : goal.returns-clause-once
returns-clause-once c = rw c.list_shrinking.ensures.front (schedule-once c.args.old.now c.args.new.now (omega arith))

pub returns-clause-within : goal.returns-clause-within
returns-clause-within c = rw c.list_shrinking.ensures.front (λ p m. schedule-below c.args.old.now c.args.new.now p m)

pub returns-clause-differing : goal.returns-clause-differing
returns-clause-differing c = rw c.list_shrinking.ensures.front
    (λ p l. (λ m. schedule-differs c.args.old.now c.args.new.now p m, λ ne. differs-schedule c.args.old.now c.args.new.now p (omega arith) l ne))
