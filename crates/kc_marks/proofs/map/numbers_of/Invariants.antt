-- The array tells the entries from here on.
use Rattle.std.proofs.Common.{◌≡◌, ℕ, drop}
use Rattle.kc_marks.specs.Maps.{number_in}
use Rattle.kc_marks.specs.Sparse.{number_at}
use Rattle.kc_marks.proofs.Entries.{on_by}
use Rattle.kc_marks.proofs.map.numbers_of.Given as goal

abbrev pub invariant-loop-i : goal.invariant-loop-i
invariant-loop-i g l = (z : ℕ) → number_at l.numbers z ≡ on_by l.i (number_in (drop l.i l.entries) z)
