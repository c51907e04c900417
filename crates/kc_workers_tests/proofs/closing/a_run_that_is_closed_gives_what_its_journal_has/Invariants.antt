-- K names the table of the parts, and all that is so of their journal now.
use Rattle.kc_workers_tests.proofs.closing.a_run_that_is_closed_gives_what_its_journal_has.Given as goal

abbrev pub ghosts-enter_alone-K-Name : goal.ghosts-enter_alone-K-Name
ghosts-enter_alone-K-Name g a = record {
  opened = record { table = a.parts.words; edges = a.parts.journal.opened; stamps = a.parts.journal.opening_stamps };
  start_edges = a.parts.journal.started;
  log = a.parts.journal.levels.log;
  entries = a.parts.journal.entries;
}

abbrev pub ghosts-enter_alone-K-Ledger : goal.ghosts-enter_alone-K-Ledger
ghosts-enter_alone-K-Ledger g a = record { name = a.blank.name; parts = a.blank.parts }
