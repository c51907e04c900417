-- Each of the bytes before `i` is a blank.
use Rattle.std.proofs.Common.{◌≡◌, ◌<◌, ℕ, get_or, true}
use Rattle.kc_text.specs.Lines.{is_blank}
use Rattle.kc_dialect.proofs.columns.blanks.Given as goal

abbrev pub invariant-loop-i : goal.invariant-loop-i
invariant-loop-i l = (k : ℕ) → k < l.i → is_blank (get_or l.bytes k 0) ≡ true
