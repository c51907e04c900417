-- The board is the one of the blank.
use Rattle.kc_snapshot_tests.proofs.shown.more_moves_than_vertices_are_published.Given as goal

abbrev pub ghosts-watch : goal.ghosts-watch
ghosts-watch g a = record { book = a.blank }
