-- The text so far, with the lines of the batches that are left, is the whole text.
use Rattle.std.proofs.Common.{◌≡◌, ◌-◌, ◌++◌, length}
use Rattle.std.specs.List.{flat_map}
use Rattle.kc_report.specs.declared.sizes.TheConstants.{BATCHES, EDGE_LINES}
use Rattle.kc_report.specs.Generator.{batch_lines, drawn_batches, generated}
use Rattle.kc_report.proofs.generator.generate.Given as goal

abbrev pub invariant-loop : goal.invariant-loop
invariant-loop l = record {
  count : length l.edges.items ≡ EDGE_LINES;
  text : l.text.items ++ flat_map batch_lines (drawn_batches l.edges.items (BATCHES - l.counter) l.draws.state) ≡ generated l.number;
}
