-- The pairs are those of the edges so far between the numbers that stand for their ends, without loops.
use Rattle.std.proofs.Common.{◌≡◌, take}
use Rattle.std.specs.List.{filter_map}
use Rattle.kc_text.specs.Inputs.{numbered}
use Rattle.kc_text.proofs.numbering.numbered.Given as goal

abbrev pub invariant-loop-a : goal.invariant-loop-a
invariant-loop-a l = l.pairs.items ≡ filter_map (numbered l.ids) (take l.a-index l.edges)
