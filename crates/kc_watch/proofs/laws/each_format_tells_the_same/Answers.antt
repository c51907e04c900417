-- What is told has nothing of the format.
use Rattle.std.proofs.Common.{ap}
use Rattle.kc_stream.specs.Asking.{stream_lines}
use Rattle.kc_stream.specs.Ended.{ended}
use Rattle.kc_stream.specs.Hearing.{nothing_heard}
use Rattle.kc_reply.specs.Texts.{facts_text}
use Rattle.kc_watch.proofs.Dropping.{all-told, lines-told}
use Rattle.kc_watch.proofs.laws.each_format_tells_the_same.Goals as goal

pub returns-clause-so_far : goal.returns-clause-so_far
returns-clause-so_far c = λ options format bytes. ap (facts_text format) (lines-told options format nothing_heard (stream_lines (ended bytes)))

pub returns-clause-at_end : goal.returns-clause-at_end
returns-clause-at_end c = λ options format bytes. ap (facts_text format) (all-told options format bytes)
