-- All bytes so far are digits, and `number` is what they spell.
use Rattle.std.proofs.Common.{◌≡◌, take, true}
use Rattle.std.specs.List.{list_all}
use Rattle.kc_text.specs.Forms.{is_digit, value}
use Rattle.kc_claims.proofs.edge_line.cut_number.Given as goal

abbrev pub invariant-loop-digits : goal.invariant-loop-digits
invariant-loop-digits l = record {
  so_far : l.number ≡ value (take l.digits l.bytes);
  each : list_all is_digit (take l.digits l.bytes) ≡ true;
}
