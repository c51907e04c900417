-- What an attempt tells since it began it tells since the first began, and the misses before it stay true.
use Rattle.std.proofs.Common.{rules, ◌≡◌, ◌++◌, ◌∷◌, [], List, length, refl, sym, ap, subst, arith, length-append}
use Rattle.std.specs.Prelude.{All}
use Rattle.kc_table.specs.declared.view.Event.{Event}
use Rattle.kc_table.proofs.Prefixes.{prefix_trans}
use Rattle.kc_table.specs.Log.{Opened}
use Rattle.kc_shared.specs.Misses.{IsTrueMiss}
use Rattle.kc_shared.specs.declared.missed.Missed.{Missed}
use Rattle.kc_shared.proofs.Telling.{continues-earlier}
use Rattle.kc_workers.specs.Updates.{IsAttempt, entered_in}
use Rattle.kc_workers.proofs.Attempting.{handed-on, misses-stay, one-more, receipt-since}
use Rattle.kc_workers.proofs.entering.Entering.without_lock.Goals as goal

pub returns-in_err-receipt-clause-continues : goal.returns-in_err-receipt-clause-continues
returns-in_err-receipt-clause-continues g c =
    continues-earlier c.args.worker.now.log c.attempts.invariant.longer c.attempt.ensures.continues

pub returns-in_err-receipt-clause-cause : goal.returns-in_err-receipt-clause-cause
returns-in_err-receipt-clause-cause g c =
    handed-on g.K.Name.opened c.args.worker.now.log c.attempts.worker.log
    c.attempt.new.worker.log c.args.self.now.assignment.index c.args.self.now.assignment.update c.in_err-receipt.field-0.0
    c.from_residual.result c.from_residual.ensures.1
    c.attempts.invariant.longer c.in_err-receipt.ensures.cause

pub returns-in-Entered-clause-continues : goal.returns-in-Entered-clause-continues
returns-in-Entered-clause-continues g c =
    continues-earlier c.args.worker.now.log c.attempts.invariant.longer c.attempt.ensures.continues

pub returns-in-Entered-clause-misses : goal.returns-in-Entered-clause-misses
returns-in-Entered-clause-misses g c =
    misses-stay g.K.Name.opened c.args.worker.now.log c.attempts.worker.log
    c.attempt.new.worker.log c.attempts.misses.items c.attempt.ensures.continues.legal
    c.attempts.invariant.longer c.attempt.ensures.continues.longer c.attempts.invariant.all

pub returns-in-Entered-clause-entered : goal.returns-in-Entered-clause-entered
returns-in-Entered-clause-entered g c =
    let o : Opened = g.K.Name.opened in
    receipt-since o c.args.worker.now.log c.attempts.worker.log c.attempt.new.worker.log c.args.self.now.assignment.index c.args.self.now.assignment.update
    c.args.self.now.assignment.update c.in-Entered.receipt refl c.attempts.invariant.longer
    (subst (IsAttempt o c.attempts.worker.log c.attempt.new.worker.log c.args.self.now.assignment.index c.args.self.now.assignment.update) c.in-Entered.is
    c.in_ok-receipt.ensures.attempt)

pub attempts-preserved : goal.attempts-preserved
attempts-preserved g c =
    let o : Opened = g.K.Name.opened in
    let start : List Event = c.args.worker.now.log in
    let log : List Event = c.attempt.new.worker.log in
    let miss = subst (IsAttempt o c.attempts.worker.log log c.args.self.now.assignment.index c.args.self.now.assignment.update) c.in-Missed.is
    c.in_ok-receipt.ensures.attempt in
    let all = one-more o start c.attempts.worker.log log c.attempts.misses.items
    c.in-Missed.missed c.attempt.ensures.continues.legal c.attempts.invariant.longer
    c.attempt.ensures.continues.longer c.attempts.invariant.all miss in
    let items : c.push.new.self.items ≡ c.attempts.misses.items ++ c.in-Missed.missed ∷ [] = search rules in
    record {
      table = search rules;
      longer = prefix_trans start c.attempts.worker.log log c.attempts.invariant.longer c.attempt.ensures.continues.longer;
      few = omega (arith, ap (λ (ms : List Missed). length ms) items, length-append c.attempts.misses.items (c.in-Missed.missed ∷ []));
      all = subst (All (IsTrueMiss o start log)) (sym items) all;
      legal = λ _. c.attempt.ensures.continues.legal;
      amount = omega (arith, c.in_ok-receipt.ensures.amount, ap entered_in c.in-Missed.is, c.attempts.invariant.amount);
      parts = search rules;
    }
