-- The board is the one of the blank.
use Rattle.kc_snapshot_tests.proofs.shown.a_reader_that_is_told_sees_what_was_entered.Given as goal

abbrev pub ghosts-watch : goal.ghosts-watch
ghosts-watch g a = record { book = a.blank }
