-- The names are those of the parts that are shared.
use Rattle.kc_workers_tests.proofs.plans.a_plan_between_two_edges_reads_what_opened.Given as goal

abbrev pub ghosts-plan_at_rest-K-Name : goal.ghosts-plan_at_rest-K-Name
ghosts-plan_at_rest-K-Name g a = record {
  opened = record { table = a.parts.words; edges = a.parts.journal.opened; stamps = a.parts.journal.opening_stamps };
  start_edges = a.parts.journal.started;
  log = a.parts.journal.levels.log;
  entries = a.parts.journal.entries;
}

abbrev pub ghosts-plan_at_rest-K-Ledger : goal.ghosts-plan_at_rest-K-Ledger
ghosts-plan_at_rest-K-Ledger g a = record { name = a.blank.name; parts = a.blank.parts }
