-- The lines of the ids so far were put.
use Rattle.std.proofs.Common.{◌≡◌, ◌++◌, take}
use Rattle.std.specs.List.{flat_map}
use Rattle.kc_state.specs.Starts.{loop_line}
use Rattle.kc_state.proofs.start.put_loops.Given as goal

abbrev pub invariant-loop-id : goal.invariant-loop-id
invariant-loop-id l = l.out.items ≡ l.fn.out.items ++ flat_map loop_line (take l.id-index l.ids)
