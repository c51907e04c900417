-- The first part begins with all bytes before `i`, and what is left is parted as it begins.
use Rattle.std.proofs.Common.{◌≡◌, false, take, drop}
use Rattle.kc_dialect.specs.Columns.{parts}
use Rattle.kc_dialect.proofs.Turns.{onto}
use Rattle.kc_dialect.proofs.columns.cut_part.Given as goal

abbrev pub invariant-loop-i : goal.invariant-loop-i
invariant-loop-i l = parts l.separator false l.line ≡ onto (take l.i l.line) (parts l.separator l.quoted (drop l.i l.line))
