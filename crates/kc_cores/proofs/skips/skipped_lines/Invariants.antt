-- The text has the lines so far.
use Rattle.std.proofs.Common.{◌≡◌, option_map, string_bytes, take}
use Rattle.std.specs.List.{flat_map}
use Rattle.kc_cores.specs.Skips.{skipped_line}
use Rattle.kc_cores.proofs.skips.skipped_lines.Given as goal

abbrev pub invariant-loop-bad : goal.invariant-loop-bad
invariant-loop-bad l = record {
  so_far : string_bytes l.text ≡ flat_map (skipped_line (option_map (λ t. t.now) l.file)) (take l.bad-index l.first);
}
