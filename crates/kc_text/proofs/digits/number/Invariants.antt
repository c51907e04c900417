-- All bytes so far are digits, and `value` is what they spell, or 2 ^ 32 where that is no less.
use Rattle.std.proofs.Common.{◌≡◌, take, true, min}
use Rattle.std.specs.List.{list_all}
use Rattle.kc_text.specs.Forms.{value, is_digit}
use Rattle.kc_text.proofs.digits.number.Given as goal

abbrev pub invariant-loop-b : goal.invariant-loop-b
invariant-loop-b l = record {
  so_far : l.value ≡ min (value (take l.b-index l.field)) 4294967296;
  digits : list_all is_digit (take l.b-index l.field) ≡ true;
}
