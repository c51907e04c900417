-- A full group has more items than its lower half.
use Rattle.std.proofs.Common.{arith, sym}
use Rattle.std.proofs.lemmas.List.{length-take-le}
use Rattle.kc_list.specs.declared.limits.TheConstants.{HALF_ITEMS}
use Rattle.kc_list.proofs.halve.half_of.Goals as goal

pub slice_bounds-lower-end : goal.slice_bounds-lower-end
slice_bounds-lower-end c = sym (length-take-le HALF_ITEMS c.args.members.now (omega (arith, c.requires)))
