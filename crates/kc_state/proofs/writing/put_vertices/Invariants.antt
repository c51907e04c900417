-- The lines of the vertices so far were put.
use Rattle.std.proofs.Common.{◌≡◌}
use Rattle.std.specs.List.{flat_map}
use Rattle.kc_flat.specs.Listing.{ascending_below}
use Rattle.kc_state.specs.SummedPages.{HasPut}
use Rattle.kc_state.specs.Texts.{vertex_text}
use Rattle.kc_state.proofs.writing.put_vertices.Given as goal

abbrev pub invariant-loop-v : goal.invariant-loop-v
invariant-loop-v g l = record {
  put : HasPut (g.O.Sink.taken l.fn.out) (g.O.Sink.taken l.out) l.fn.summed l.summed (flat_map (vertex_text l.ids l.lawful) (ascending_below l.v));
  faultless : g.O.Sink.faults l.out ≡ g.O.Sink.faults l.fn.out;
}
