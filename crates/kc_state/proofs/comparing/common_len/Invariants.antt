-- The bytes before this one are the same in both texts.
use Rattle.std.proofs.Common.{◌≡◌, ◌≤◌, length, take}
use Rattle.kc_state.proofs.comparing.common_len.Given as goal

abbrev pub invariant-loop-i : goal.invariant-loop-i
invariant-loop-i l = record {
  within : l.i ≤ length l.text;
  same : take l.i l.text ≡ take l.i l.piece;
}
