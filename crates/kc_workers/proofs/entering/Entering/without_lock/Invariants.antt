-- The attempts so far were lost, and each miss is true since the first began.
use Rattle.std.proofs.Common.{◌≡◌, ◌≤◌, ◌<◌, ◌-◌, length, vec_len}
use Rattle.std.specs.Prelude.{All}
use mathlib.Core.List.{IsPrefix}
use Rattle.kc_table.specs.Legal.{Legal}
use Rattle.kc_shared.specs.Misses.{IsTrueMiss}
use Rattle.kc_shared.specs.declared.shared.TheConstants.{MISSES}
use Rattle.kc_workers.proofs.entering.Entering.without_lock.Given as goal

abbrev pub invariant-attempts : goal.invariant-attempts
invariant-attempts g l = record {
  table : l.worker.table ≡ g.K.Name.opened.table;
  longer : IsPrefix l.fn.worker.log l.worker.log;
  few : length l.misses.items ≤ MISSES;
  all : All (IsTrueMiss g.K.Name.opened l.fn.worker.log l.worker.log) l.misses.items;
  legal : 0 < length l.misses.items → Legal g.K.Name.opened.table.shape g.K.Name.opened.table.opening l.worker.log;
  amount : l.part.amount ≡ l.fn.part.amount;
  parts : l.part.parts ≡ l.fn.part.parts;
}

abbrev pub decreases-attempts : goal.decreases-attempts
decreases-attempts g l = MISSES - vec_len l.misses
