-- The rows so far lie at the beginning of the block, and are empty.
use Rattle.std.proofs.Common.{◌≡◌, replicate}
use Rattle.kc_graph.specs.declared.row.Row.TheVariants.{Part}
use Rattle.kc_graph.proofs.rows.Rows.empty.Given as goal

abbrev pub invariant-loop : goal.invariant-loop
invariant-loop l = l.rows.items ≡ replicate l.counter (Part 0 0)
