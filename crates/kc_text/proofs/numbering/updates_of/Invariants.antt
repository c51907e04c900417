-- The updates are the changes so far between the numbers that stand for their ids.
use Rattle.std.proofs.Common.{◌≡◌, take, map}
use Rattle.kc_text.specs.Inputs.{numbered_change, parts_of}
use Rattle.kc_text.proofs.numbering.updates_of.Given as goal

abbrev pub invariant-loop-change : goal.invariant-loop-change
invariant-loop-change l = map parts_of l.updates.items ≡ map (numbered_change l.ids) (take l.change-index l.batch)
