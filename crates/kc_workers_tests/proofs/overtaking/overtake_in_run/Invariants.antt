-- K names the table of the parts, and all that is so of their journal now.
use Rattle.kc_workers_tests.proofs.overtaking.overtake_in_run.Given as goal

abbrev pub ghosts-overtake_alone-K-Name : goal.ghosts-overtake_alone-K-Name
ghosts-overtake_alone-K-Name g a = record {
  opened = record { table = a.parts.words; edges = a.parts.journal.opened; stamps = a.parts.journal.opening_stamps };
  start_edges = a.parts.journal.started;
  log = a.parts.journal.levels.log;
  entries = a.parts.journal.entries;
}

abbrev pub ghosts-overtake_alone-K-Ledger : goal.ghosts-overtake_alone-K-Ledger
ghosts-overtake_alone-K-Ledger g a = record { name = a.blank.name; parts = a.blank.parts }
