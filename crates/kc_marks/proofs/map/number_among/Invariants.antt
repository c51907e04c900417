-- The vertex has no entry among those passed.
use Rattle.std.proofs.Common.{◌≡◌, drop}
use Rattle.kc_marks.specs.Maps.{number_in}
use Rattle.kc_marks.proofs.Entries.{on_by}
use Rattle.kc_marks.proofs.map.number_among.Given as goal

abbrev pub invariant-loop-i : goal.invariant-loop-i
invariant-loop-i g l = number_in l.entries l.y ≡ on_by l.i (number_in (drop l.i l.entries) l.y)
