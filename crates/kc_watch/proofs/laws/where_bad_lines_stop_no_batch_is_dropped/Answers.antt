-- At first none is, and no line drops one.
use Rattle.std.proofs.Common.{refl}
use Rattle.kc_stream.specs.Asking.{stream_lines}
use Rattle.kc_stream.specs.Hearing.{nothing_heard}
use Rattle.kc_watch.proofs.Dropping.{all-drop_none}
use Rattle.kc_watch.proofs.laws.where_bad_lines_stop_no_batch_is_dropped.Goals as goal

pub returns-clause-dropped : goal.returns-clause-dropped
returns-clause-dropped c = λ bytes. (all-drop_none (stream_lines bytes) nothing_heard (record { undropped = refl; count = refl })).undropped

pub returns-clause-count : goal.returns-clause-count
returns-clause-count c = λ bytes. (all-drop_none (stream_lines bytes) nothing_heard (record { undropped = refl; count = refl })).count
