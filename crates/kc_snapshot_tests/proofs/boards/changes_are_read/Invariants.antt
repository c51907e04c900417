-- The board is the one of the blank.
use Rattle.kc_snapshot_tests.proofs.boards.changes_are_read.Given as goal

abbrev pub ghosts-read_changes : goal.ghosts-read_changes
ghosts-read_changes g a = record { book = a.blank }
