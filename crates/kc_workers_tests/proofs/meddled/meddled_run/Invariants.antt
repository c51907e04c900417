-- The names are those of the parts that are shared.
use Rattle.kc_workers_tests.proofs.meddled.meddled_run.Given as goal

abbrev pub ghosts-enter_meddled-K-Name : goal.ghosts-enter_meddled-K-Name
ghosts-enter_meddled-K-Name g a = record {
  opened = record { table = a.parts.words; edges = a.parts.journal.opened; stamps = a.parts.journal.opening_stamps };
  start_edges = a.parts.journal.started;
  log = a.parts.journal.levels.log;
  entries = a.parts.journal.entries;
}

abbrev pub ghosts-enter_meddled-K-Ledger : goal.ghosts-enter_meddled-K-Ledger
ghosts-enter_meddled-K-Ledger g a = record { name = a.blank.name; parts = a.blank.parts }
