-- All places before the one that is looked at are current.
use Rattle.std.proofs.Common.{take}
use Rattle.std.specs.Prelude.{All}
use Rattle.kc_agree.specs.Stale.{IsPlaceCurrent}
use Rattle.kc_agree.proofs.stale.first_stale_place.Given as goal

abbrev pub invariant-loop-place : goal.invariant-loop-place
invariant-loop-place l = All (IsPlaceCurrent l.place_stamps) (take l.place-index l.places)
