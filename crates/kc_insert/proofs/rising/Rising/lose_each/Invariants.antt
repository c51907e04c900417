-- Just the neighbours so far have lost what they lose, and marks, queue and the list of the weak fit each other still.
use Rattle.std.proofs.Common.{take}
use Rattle.kc_insert.specs.Rising.{IsOrderly}
use Rattle.kc_insert.specs.Turns.{Loses}
use Rattle.kc_insert.proofs.rising.Rising.lose_each.Given as goal

abbrev pub invariant-loop-y : goal.invariant-loop-y
invariant-loop-y l = record {
  orderly : IsOrderly l.self;
  loses : Loses l.level l.loss (take l.y-index l.row) l.fn.self l.self;
}
