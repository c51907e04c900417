-- As many vertices are shifted as there are shifts.
use Rattle.std.proofs.Common.{length, ap, arith, length-append}
use Rattle.kc_cert.specs.Local.{firsts, moved_vertices}
use Rattle.kc_cert.proofs.Turns.{length-firsts}
use Rattle.kc_graph.specs.declared.plan.Moves.{Moves}
use Rattle.kc_levels.proofs.making.moved_count.Goals as goal

pub returns-in-Rise : goal.returns-in-Rise
returns-in-Rise c =
    omega (
      arith,
      c.len.ensures,
      c.len-in-Rise.ensures,
      length-append c.in-Rise.rise.items (firsts c.in-Rise.shifts.items),
      length-firsts c.in-Rise.shifts.items,
      ap (λ (m : Moves). length (moved_vertices m)) c.in-Rise.is,
    )
