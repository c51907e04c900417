-- The board is the one of the blank.
use Rattle.kc_snapshot_tests.proofs.boards.of_a_list_the_vertices_that_are_named_are_published.Given as goal

abbrev pub ghosts-read_among : goal.ghosts-read_among
ghosts-read_among g a = record { book = a.blank }
