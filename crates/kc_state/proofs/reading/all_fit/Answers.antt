-- Each number of a list fits, whatever stands for none.
use Rattle.std.proofs.Common.{arith}
use Rattle.kc_lists.proofs.Shared.{get_or-any}
use Rattle.kc_state.proofs.reading.all_fit.Goals as goal

pub returns : goal.returns
returns c = λ k d l. omega (arith, get_or-any c.args.numbers.now k d 0 l, c.type_inv.numbers k)
