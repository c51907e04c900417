-- So many vertices were told, and no id twice; there is a place for each that is to come.
use Rattle.std.proofs.Common.{◌≡◌, ◌≤◌, length}
use Rattle.kc_lists.specs.Lists.{Distinct}
use Rattle.kc_state.proofs.vertices.read_vertices.Given as goal

abbrev pub invariant-loop-v : goal.invariant-loop-v
invariant-loop-v l = record {
  ids : length l.told.ids ≡ l.v;
  once : Distinct l.told.ids;
  shorter : length l.lines.rest.now ≤ length l.fn.lines.rest.now;
}
