-- No byte from `len` on is a newline.
use Rattle.std.proofs.Common.{◌≡◌, ◌≤◌, ◌<◌, ℕ, false, length, get_or}
use Rattle.kc_text.specs.Lines.{is_newline}
use Rattle.kc_dialect.proofs.bytes.whole_len.Given as goal

abbrev pub invariant-loop-len : goal.invariant-loop-len
invariant-loop-len l = record {
  within : l.len ≤ length l.bytes;
  behind : (k : ℕ) → l.len ≤ k → k < length l.bytes → is_newline (get_or l.bytes k 0) ≡ false;
}

abbrev pub decreases-loop-len : goal.decreases-loop-len
decreases-loop-len l = l.len
