-- The answers agree with the state, so the plan is local.
use Rattle.kc_agree.proofs.Agreeing.{right_now}
use Rattle.kc_agree.proofs.laws.a_sure_plan_of_present_stamps_is_right.Goals as goal

pub returns : goal.returns
returns c = right_now
