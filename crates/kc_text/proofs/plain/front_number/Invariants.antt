-- All bytes before `i` are digits, and `value` is exactly what they spell.
use Rattle.std.proofs.Common.{◌≡◌, take, true}
use Rattle.std.specs.List.{list_all}
use Rattle.kc_text.specs.Forms.{value, is_digit}
use Rattle.kc_text.proofs.plain.front_number.Given as goal

abbrev pub invariant-loop-i : goal.invariant-loop-i
invariant-loop-i l = record {
  so_far : l.value ≡ value (take l.i l.bytes);
  digits : list_all is_digit (take l.i l.bytes) ≡ true;
}
