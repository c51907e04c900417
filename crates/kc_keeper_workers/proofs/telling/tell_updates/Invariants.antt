-- Those before the present update are told of.
use Rattle.std.proofs.Common.{take}
use Rattle.kc_keeper.specs.Telling.{IsToldOf}
use Rattle.kc_keeper_workers.proofs.telling.tell_updates.Given as goal

abbrev pub invariant-loop-update : goal.invariant-loop-update
invariant-loop-update l = IsToldOf l.graph (take l.update-index l.updates) l.changes
