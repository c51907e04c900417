-- The parts so far are packed.
use Rattle.kc_flat.proofs.Packed.{PackedTo}
use Rattle.kc_flat.proofs.packing.drop_repeats.Given as goal

abbrev pub invariant-loop-end : goal.invariant-loop-end
invariant-loop-end l = PackedTo l.initial.ends l.initial.block l.ends l.block l.end-index l.from l.kept
