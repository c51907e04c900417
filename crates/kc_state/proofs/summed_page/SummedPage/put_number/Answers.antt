-- One text goes on after another.
use Rattle.std.proofs.Common.{[], ◌∷◌, decimal}
use Rattle.kc_state.proofs.Putting.{part-first, part-then, put-then}
use Rattle.kc_state.proofs.summed_page.SummedPage.put_number.Goals as goal

pub returns-in_err-put_digits-clause-part : goal.returns-in_err-put_digits-clause-part
returns-in_err-put_digits-clause-part g c =
    part-first c.from_residual.result _ _ c.args.self.now.page (decimal c.args.number) (c.args.byte ∷ []) _ (cc)
    c.in_err-put_digits.ensures.part

pub returns-clause-put : goal.returns-clause-put
returns-clause-put g c =
    put-then c.put.result _ _ _ c.args.self.now c.put_digits.new.self c.put.new.self (decimal c.args.number)
    (c.args.byte ∷ []) _ _ (cc) (cc) c.in_ok-put_digits.ensures.put c.put.ensures.put

pub returns-clause-part : goal.returns-clause-part
returns-clause-part g c =
    part-then c.put.result _ _ _ c.args.self.now c.put_digits.new.self (decimal c.args.number)
    (c.args.byte ∷ []) _ _ (cc) (cc) c.in_ok-put_digits.ensures.put c.put.ensures.part
