-- The status is that of the judgement.
use Rattle.std.proofs.Common.{sym, ◌∙◌, ap}
use Rattle.kc_c.specs.declared.answer.CallResult.{CallResult}
use Rattle.kc_c.proofs.kcore_verdict.Goals as goal

pub returns-clause-seidman : goal.returns-clause-seidman
returns-clause-seidman c = λ done. c.judge.ensures.seidman (ap (λ (a : CallResult). a.status) (sym c.answer_to.ensures) ∙ done)
