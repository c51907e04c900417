-- The lines of the edges to the neighbours so far were put.
use Rattle.std.proofs.Common.{◌≡◌, ◌++◌, take}
use Rattle.std.specs.List.{flat_map}
use Rattle.kc_state.specs.Texts.{greater_line}
use Rattle.kc_state.proofs.start.put_all_greater.Given as goal

abbrev pub invariant-loop-w : goal.invariant-loop-w
invariant-loop-w l = l.out.items ≡ l.fn.out.items ++ flat_map (greater_line l.ids l.v) (take l.w-index l.neighbours)
