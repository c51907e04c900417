-- Between two rounds the batch's account stands, and nobody has dropped an update.
use Rattle.std.proofs.Common.{◌≡◌, ◌+◌, ◌<◌, ◌≤◌, length, vec_len}
use Rattle.std.specs.Prelude.{All}
use Rattle.kc_levels.specs.declared.levels.TheConstants.{LAST_NUMBER}
use Rattle.kc_batch.specs.Batches.{IsStateOfBatch}
use Rattle.kc_batch.specs.Desks.{KeepsOneOf}
use Rattle.kc_batch.specs.Seats.{AreTurnsOf}
use Rattle.kc_batch.proofs.batch.work_off.Given as goal

abbrev pub invariant-loop : goal.invariant-loop
invariant-loop g l = record {
  state : IsStateOfBatch g.began l.turns l.ended.items l.state;
  keeps : All (λ d. KeepsOneOf (length l.turns.batch.updates.now) d.work.left) l.state.desks.items;
  as_many : vec_len l.state.desks ≡ vec_len l.initial.state.desks;
  size : l.state.parts.words.shape.fixed ≡ l.initial.state.parts.words.shape.fixed;
  some : 0 < vec_len l.state.desks;
  turns : AreTurnsOf l.turns;
  numbers : length g.began.entries + length l.turns.batch.updates.now ≤ LAST_NUMBER;
}

abbrev pub ghosts-run_round-K-Name : goal.ghosts-run_round-K-Name
ghosts-run_round-K-Name g a = record {
  opened = record { table = a.state.parts.words; edges = a.state.parts.journal.opened; stamps = a.state.parts.journal.opening_stamps };
  start_edges = a.state.parts.journal.started;
  log = a.state.parts.journal.levels.log;
  entries = a.state.parts.journal.entries;
}

abbrev pub ghosts-run_round-K-Ledger : goal.ghosts-run_round-K-Ledger
ghosts-run_round-K-Ledger g a = record { name = a.blank.name; parts = a.blank.parts }

abbrev pub ghost-go_on : goal.ghost-go_on
ghost-go_on g a = g.began
