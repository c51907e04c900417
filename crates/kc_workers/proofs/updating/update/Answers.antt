-- What was seen under the lock goes on from what was seen before it.
use Rattle.kc_shared.proofs.Telling.{continues-earlier}
use Rattle.kc_workers.proofs.Attempting.{begun-log, done-held, handed-on, split_log-goes_on}
use Rattle.kc_workers.proofs.updating.update.Goals as goal

pub returns-in_err-receipt-2-clause-continues : goal.returns-in_err-receipt-2-clause-continues
returns-in_err-receipt-2-clause-continues g c =
    continues-earlier c.args.worker.now.log
    (split_log-goes_on c.worker.view_is c.split-since.ensures.old c.without_lock.ensures.continues.longer) c.under_lock.ensures.continues

pub returns-in_err-receipt-2-clause-cause : goal.returns-in_err-receipt-2-clause-cause
returns-in_err-receipt-2-clause-cause g c =
    handed-on g.K.Name.opened c.args.worker.now.log c.without_lock.new.worker.log
    c.under_lock.new.worker.log c.args.assignment.index c.args.assignment.update c.in_err-receipt-2.field-0.0 c.from_residual-in_err-receipt-2.result
    c.from_residual-in_err-receipt-2.ensures.1 (split_log-goes_on c.worker.view_is c.split-since.ensures.old c.without_lock.ensures.continues.longer)
    c.in_err-receipt-2.ensures.cause

pub returns-clause-continues : goal.returns-clause-continues
returns-clause-continues g c =
    continues-earlier c.args.worker.now.log
    (split_log-goes_on c.worker.view_is c.split-since.ensures.old c.without_lock.ensures.continues.longer) c.under_lock.ensures.continues

pub returns-clause-done : goal.returns-clause-done
returns-clause-done g c =
    done-held g.K.Name.opened c.split-since.new.pass.log c.args.worker.now.log
    c.without_lock.new.worker.log c.under_lock.new.worker.log c.args.assignment.index c.args.assignment.update
    (record { receipt = c.in_ok-receipt-2.receipt; misses = c.without_lock.new.misses }) (begun-log c.worker.view_is c.split-since.ensures.old)
    c.under_lock.ensures.continues.legal c.without_lock.ensures.continues.longer c.under_lock.ensures.continues.longer c.in_ok-receipt.ensures.few
    c.in_ok-receipt.ensures.misses c.in_ok-receipt-2.ensures.entered
