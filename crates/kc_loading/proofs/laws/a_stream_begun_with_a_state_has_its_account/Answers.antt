-- The line batch ends the start, behind the lines of the start text.
use Rattle.kc_loading.proofs.Ended.{account-begun}
use Rattle.kc_loading.proofs.laws.a_stream_begun_with_a_state_has_its_account.Goals as goal

pub returns : goal.returns
returns c = account-begun
