-- The bytes so far have gone on.
use Rattle.std.proofs.Common.{◌≡◌, take}
use Rattle.std.specs.List.{flat_map}
use Rattle.kc_lines.specs.Json.{json_byte}
use Rattle.kc_lines.specs.Pages.{PassesOn}
use Rattle.kc_lines.proofs.json.put_bytes.Given as goal

abbrev pub invariant-loop-b : goal.invariant-loop-b
invariant-loop-b g l = record {
  passes : PassesOn (g.O.Sink.taken l.fn.out) (g.O.Sink.taken l.out) l.fn.page l.page (flat_map json_byte (take l.b-index l.bytes));
  faultless : g.O.Sink.faults l.out ≡ g.O.Sink.faults l.fn.out;
}
