-- The places so far make the old list the new one, up to the vertex that comes next.
use Rattle.std.proofs.Common.{◌≡◌, ◌++◌, take, drop}
use Rattle.kc_snapshot.specs.Histories.{changed}
use Rattle.kc_snapshot.proofs.listing.differences.Given as goal

abbrev pub invariant-loop-at : goal.invariant-loop-at
invariant-loop-at l = changed l.old l.places.items ≡ take l.at l.new ++ drop l.at l.old
