-- The lines of the changes so far.
use Rattle.std.proofs.Common.{◌≡◌, ◌++◌, take, codes, ◌∷◌}
use Rattle.std.specs.List.{flat_map}
use Rattle.kc_report.specs.Generator.{change_line}
use Rattle.kc_report.proofs.generator.put_batch.Given as goal

abbrev pub invariant-loop-change : goal.invariant-loop-change
invariant-loop-change l = l.out.items ≡ l.fn.out.items ++ (codes "batch" ++ 10 ∷ flat_map change_line (take l.change-index l.changes))
