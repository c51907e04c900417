-- The fields so far have gone on.
use Rattle.std.proofs.Common.{◌≡◌, take}
use Rattle.std.specs.List.{flat_map}
use Rattle.kc_lines.specs.Lines.{later_text}
use Rattle.kc_lines.specs.Pages.{PassesOn}
use Rattle.kc_lines.proofs.lines.put_later_fields.Given as goal

abbrev pub invariant-loop-field : goal.invariant-loop-field
invariant-loop-field g l = record {
  passes : PassesOn (g.O.Sink.taken l.fn.out) (g.O.Sink.taken l.out) l.fn.page l.page
      (flat_map (later_text l.format) (take l.field-index l.fields));
  faultless : g.O.Sink.faults l.out ≡ g.O.Sink.faults l.fn.out;
}
