-- The changes so far are listed.
use Rattle.std.proofs.Common.{◌≡◌, ◌++◌, take}
use Rattle.std.specs.List.{flat_map}
use Rattle.kc_watch.specs.Endings.{known_change}
use Rattle.kc_watch.proofs.listing.list_known.Given as goal

abbrev pub invariant-loop-change : goal.invariant-loop-change
invariant-loop-change l = l.listed.items ≡ l.fn.listed.items ++ flat_map (known_change l.ids l.known) (take l.change-index l.changes)
