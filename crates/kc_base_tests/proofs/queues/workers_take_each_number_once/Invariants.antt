-- The queue that the workers name is the one that is handed in.
use Rattle.kc_base_tests.proofs.queues.workers_take_each_number_once.Given as goal

abbrev pub ghosts-share_out : goal.ghosts-share_out
ghosts-share_out g a = record { queue = a.queue }
