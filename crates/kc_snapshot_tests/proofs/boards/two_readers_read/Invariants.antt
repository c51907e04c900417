-- The board is the one of the blank.
use Rattle.kc_snapshot_tests.proofs.boards.two_readers_read.Given as goal

abbrev pub ghosts-read_by_two : goal.ghosts-read_by_two
ghosts-read_by_two g a = record { book = a.blank }
