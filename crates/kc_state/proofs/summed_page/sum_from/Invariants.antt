-- The sum is that of the bytes so far.
use Rattle.std.proofs.Common.{◌≡◌, take}
use Rattle.kc_state.specs.Texts.{sum_from}
use Rattle.kc_state.proofs.summed_page.sum_from.Given as goal

abbrev pub invariant-loop-byte : goal.invariant-loop-byte
invariant-loop-byte l = l.sum ≡ sum_from l.initial.sum (take l.byte-index l.text)
