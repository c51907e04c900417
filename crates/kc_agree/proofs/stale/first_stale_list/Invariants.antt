-- All lists before the one that is looked at are current.
use Rattle.std.proofs.Common.{take}
use Rattle.std.specs.Prelude.{All}
use Rattle.kc_agree.specs.Stale.{IsListCurrent}
use Rattle.kc_agree.proofs.stale.first_stale_list.Given as goal

abbrev pub invariant-loop-list : goal.invariant-loop-list
invariant-loop-list l = All (IsListCurrent l.edge_stamps) (take l.list-index l.edges)
