-- The board is the one of the blank.
use Rattle.kc_snapshot_tests.proofs.boards.eight_readers_read_what_was_published.Given as goal

abbrev pub ghosts-read_by_eight : goal.ghosts-read_by_eight
ghosts-read_by_eight g a = record { book = a.blank }
