-- The queue that the workers name is the one that is handed in.
use Rattle.kc_base_tests.proofs.queues.what_is_left_is_taken_last.Given as goal

abbrev pub ghosts-share_out : goal.ghosts-share_out
ghosts-share_out g a = record { queue = a.queue }
