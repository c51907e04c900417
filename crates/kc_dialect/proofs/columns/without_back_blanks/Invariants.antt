-- All bytes from `len` on are blanks.
use Rattle.std.proofs.Common.{◌≡◌, ◌≤◌, ◌+◌, length, take}
use Rattle.std.specs.List.{suffix_len}
use Rattle.kc_text.specs.Lines.{is_blank}
use Rattle.kc_dialect.proofs.columns.without_back_blanks.Given as goal

abbrev pub invariant-loop-len : goal.invariant-loop-len
invariant-loop-len l = record {
  within : l.len ≤ length l.bytes;
  blanks : l.len + suffix_len is_blank l.bytes ≡ length l.bytes + suffix_len is_blank (take l.len l.bytes);
}

abbrev pub decreases-loop-len : goal.decreases-loop-len
decreases-loop-len l = l.len
