-- The different ones of the numbers so far are packed.
use Rattle.std.proofs.Common.{◌≡◌, length}
use Rattle.kc_flat.proofs.Packed.{Packed}
use Rattle.kc_flat.proofs.packing.pack_part.Given as goal

abbrev pub invariant-loop-i : goal.invariant-loop-i
invariant-loop-i l = (length l.block ≡ length l.initial.block) × Packed l.initial.block l.block l.from l.i l.start l.end
