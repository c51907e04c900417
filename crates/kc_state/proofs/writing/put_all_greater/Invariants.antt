-- The lines of the edges to the neighbours so far were put.
use Rattle.std.proofs.Common.{◌≡◌, take}
use Rattle.kc_state.specs.SummedPages.{HasPut}
use Rattle.kc_state.specs.Texts.{lines_to_greater}
use Rattle.kc_state.proofs.writing.put_all_greater.Given as goal

abbrev pub invariant-loop-w : goal.invariant-loop-w
invariant-loop-w g l = record {
  put : HasPut (g.O.Sink.taken l.fn.out) (g.O.Sink.taken l.out) l.fn.summed l.summed (lines_to_greater l.ids l.v (take l.w-index l.neighbours));
  faultless : g.O.Sink.faults l.out ≡ g.O.Sink.faults l.fn.out;
}
