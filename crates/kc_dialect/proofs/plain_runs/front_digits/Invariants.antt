-- All bytes before `i` are digits, and they are not too many.
use Rattle.std.proofs.Common.{◌≡◌, ◌≤◌, take, true}
use Rattle.std.specs.List.{list_all}
use Rattle.kc_text.specs.Forms.{is_digit}
use Rattle.kc_dialect.proofs.plain_runs.front_digits.Given as goal

abbrev pub invariant-loop-i : goal.invariant-loop-i
invariant-loop-i l = record {
  few : l.i ≤ 9;
  digits : list_all is_digit (take l.i l.bytes) ≡ true;
}
