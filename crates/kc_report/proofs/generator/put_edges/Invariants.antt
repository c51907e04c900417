-- The lines of the edges so far.
use Rattle.std.proofs.Common.{◌≡◌, ◌++◌, take}
use Rattle.std.specs.List.{flat_map}
use Rattle.kc_report.specs.Lines.{pair_line}
use Rattle.kc_report.proofs.generator.put_edges.Given as goal

abbrev pub invariant-loop-a : goal.invariant-loop-a
invariant-loop-a l = l.out.items ≡ l.fn.out.items ++ flat_map pair_line (take l.a-index l.edges)
