-- K names the table of the parts, and all that is so of their journal now.
use Rattle.kc_workers_tests.proofs.two_workers.two_workers_enter_all_that_they_are_told.Given as goal

abbrev pub ghosts-go_over_by_two-K-Name : goal.ghosts-go_over_by_two-K-Name
ghosts-go_over_by_two-K-Name g a = record {
  opened = record { table = a.parts.words; edges = a.parts.journal.opened; stamps = a.parts.journal.opening_stamps };
  start_edges = a.parts.journal.started;
  log = a.parts.journal.levels.log;
  entries = a.parts.journal.entries;
}

abbrev pub ghosts-go_over_by_two-K-Ledger : goal.ghosts-go_over_by_two-K-Ledger
ghosts-go_over_by_two-K-Ledger g a = record { name = a.blank.name; parts = a.blank.parts }
