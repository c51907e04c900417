-- The first ids stay.
use Rattle.std.proofs.Common.{◌≡◌, length, take}
use Rattle.kc_stream.proofs.ids.Ids.forget_behind.Given as goal

abbrev pub invariant-loop-self : goal.invariant-loop-self
invariant-loop-self l = record { front : take l.count l.self ≡ take l.count l.fn.self }

abbrev pub decreases-loop-self : goal.decreases-loop-self
decreases-loop-self l = length l.self
