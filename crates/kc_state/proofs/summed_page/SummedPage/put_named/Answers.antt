-- One text goes on after another.
use Rattle.kc_state.specs.Texts.{ended_by}
use Rattle.kc_state.proofs.Putting.{part-first, part-then, put-then}
use Rattle.kc_state.proofs.summed_page.SummedPage.put_named.Goals as goal

pub returns-in_err-put-clause-part : goal.returns-in_err-put-clause-part
returns-in_err-put-clause-part g c =
    part-first c.from_residual.result _ _ c.args.self.now.page (c.args.word.now) (ended_by 10 c.args.number) _ (cc)
    c.in_err-put.ensures.part

pub returns-clause-put : goal.returns-clause-put
returns-clause-put g c =
    put-then c.put_number.result _ _ _ c.args.self.now c.put.new.self c.put_number.new.self (c.args.word.now)
    (ended_by 10 c.args.number) _ _ (cc) (cc) c.in_ok-put.ensures.put c.put_number.ensures.put

pub returns-clause-part : goal.returns-clause-part
returns-clause-part g c =
    part-then c.put_number.result _ _ _ c.args.self.now c.put.new.self (c.args.word.now)
    (ended_by 10 c.args.number) _ _ (cc) (cc) c.in_ok-put.ensures.put c.put_number.ensures.part
