-- What was written for the bytes so far stands behind what was there.
use Rattle.std.proofs.Common.{◌≡◌, ◌++◌, take}
use Rattle.std.specs.List.{flat_map}
use Rattle.kc_head.specs.Shown.{spaces_for}
use Rattle.kc_head.proofs.shown.put_space.Given as goal

abbrev pub invariant-loop-b : goal.invariant-loop-b
invariant-loop-b l = l.out.items ≡ l.initial.out.items ++ flat_map spaces_for (take l.b-index l.text)
