-- None of the bytes before `i` is a full stop.
use Rattle.std.proofs.Common.{◌≡◌, false, take}
use Rattle.kc_base_tests.specs.Echoes.{has_stop}
use Rattle.kc_base_tests.proofs.echo.front_len.Given as goal

abbrev pub invariant-loop-i : goal.invariant-loop-i
invariant-loop-i l = has_stop (take l.i l.bytes) ≡ false
