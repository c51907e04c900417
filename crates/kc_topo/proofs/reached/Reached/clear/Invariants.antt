-- The marks are those of the vertices that are left.
use Rattle.std.proofs.Common.{◌≡◌, ◌<◌, ℕ, true, false, length, get_or}
use Rattle.kc_lists.specs.Lists.{Distinct, member}
use Rattle.kc_topo.proofs.reached.Reached.clear.Given as goal

abbrev pub invariant-loop-v : goal.invariant-loop-v
invariant-loop-v l = record {
  long : length l.marks.items ≡ length l.initial.marks.items;
  distinct : Distinct l.vertices.items;
  within : (w : ℕ) → member w l.vertices.items ≡ true → w < length l.marks.items;
  marks_are : (w : ℕ) → get_or l.marks.items w false ≡ member w l.vertices.items;
}

abbrev pub decreases-loop-v : goal.decreases-loop-v
decreases-loop-v l = length l.vertices.items
