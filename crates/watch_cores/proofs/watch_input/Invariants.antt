-- The board is the one of the blank.
use Rattle.watch_cores.proofs.watch_input.Given as goal

abbrev pub ghosts-watch_batches : goal.ghosts-watch_batches
ghosts-watch_batches g a = record { book = a.blank }
