-- The board is the one of the blank.
use Rattle.kc_snapshot_tests.proofs.shown.numbers_never_fall_while_another_thread_publishes.Given as goal

abbrev pub ghosts-watch : goal.ghosts-watch
ghosts-watch g a = record { book = a.blank }
