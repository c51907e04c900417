-- What was written for the bytes so far stands behind what was there.
use Rattle.std.proofs.Common.{◌≡◌, ◌++◌, take}
use Rattle.std.specs.List.{flat_map}
use Rattle.kc_head.specs.Shown.{shown_byte}
use Rattle.kc_head.proofs.shown.put_text.Given as goal

abbrev pub invariant-loop-b : goal.invariant-loop-b
invariant-loop-b l = l.out.items ≡ l.initial.out.items ++ flat_map shown_byte (take l.b-index l.text)
