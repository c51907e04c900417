-- One text goes on after another.
use Rattle.kc_state.specs.Texts.{ended_by}
use Rattle.kc_state.proofs.Putting.{part-first, part-then, put-then}
use Rattle.kc_state.proofs.summed_page.SummedPage.put_pair.Goals as goal

pub returns-in_err-put_number-clause-part : goal.returns-in_err-put_number-clause-part
returns-in_err-put_number-clause-part g c =
    part-first c.from_residual.result _ _ c.args.self.now.page (ended_by 32 c.args.first) (ended_by 10 c.args.second) _ (cc)
    c.in_err-put_number.ensures.part

pub returns-clause-put : goal.returns-clause-put
returns-clause-put g c =
    put-then c.put_number-2.result _ _ _ c.args.self.now c.put_number.new.self c.put_number-2.new.self (ended_by 32 c.args.first)
    (ended_by 10 c.args.second) _ _ (cc) (cc) c.in_ok-put_number.ensures.put c.put_number-2.ensures.put

pub returns-clause-part : goal.returns-clause-part
returns-clause-part g c =
    part-then c.put_number-2.result _ _ _ c.args.self.now c.put_number.new.self (ended_by 32 c.args.first)
    (ended_by 10 c.args.second) _ _ (cc) (cc) c.in_ok-put_number.ensures.put c.put_number-2.ensures.part
