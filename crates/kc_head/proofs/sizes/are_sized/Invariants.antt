-- All ids so far are sized.
use Rattle.std.proofs.Common.{◌≡◌, take, true}
use Rattle.std.specs.List.{list_all}
use Rattle.kc_head.specs.Sizes.{is_sized}
use Rattle.kc_head.proofs.sizes.are_sized.Given as goal

abbrev pub invariant-loop-id : goal.invariant-loop-id
invariant-loop-id l = list_all (is_sized l.pair) (take l.id-index l.ids) ≡ true
