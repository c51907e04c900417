-- What is told has nothing of the workers.
use Rattle.std.proofs.Common.{ap}
use Rattle.kc_stream.specs.Asking.{stream_lines}
use Rattle.kc_stream.specs.Ended.{ended}
use Rattle.kc_stream.specs.Hearing.{nothing_heard}
use Rattle.kc_watch.specs.Text.{told_in}
use Rattle.kc_watch.proofs.Dropping.{all-by, lines-by}
use Rattle.kc_watch.proofs.laws.the_number_of_workers_changes_no_answer.Goals as goal

pub returns-clause-so_far : goal.returns-clause-so_far
returns-clause-so_far c = λ options workers bytes. ap (told_in options) (lines-by options workers nothing_heard (stream_lines (ended bytes)))

pub returns-clause-at_end : goal.returns-clause-at_end
returns-clause-at_end c = λ options workers bytes. ap (told_in options) (all-by options workers bytes)
