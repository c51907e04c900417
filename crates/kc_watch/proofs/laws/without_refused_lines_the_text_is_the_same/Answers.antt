-- The same is told of the lines, and of the end.
use Rattle.std.proofs.Common.{◌++◌, List, refl, ap, ap₂}
use Rattle.kc_stream.specs.Asking.{stream_lines}
use Rattle.kc_stream.specs.Ended.{ended}
use Rattle.kc_stream.specs.Hearing.{nothing_heard}
use Rattle.kc_reply.specs.Facts.{Fact}
use Rattle.kc_watch.specs.Text.{told_in}
use Rattle.kc_watch.proofs.Dropping.{end-told, lines-same}
use Rattle.kc_watch.proofs.laws.without_refused_lines_the_text_is_the_same.Goals as goal

pub returns-clause-so_far : goal.returns-clause-so_far
returns-clause-so_far c = λ options bytes fine.
    ap (told_in options) (lines-same options (stream_lines (ended bytes)) nothing_heard (record { undropped = refl; count = refl }) fine).1

pub returns-clause-at_end : goal.returns-clause-at_end
returns-clause-at_end c = λ options bytes fine.
    let (same, told) = lines-same options (stream_lines bytes) nothing_heard (record { undropped = refl; count = refl }) fine in
    ap₂ (λ (a b : List Fact). told_in options (a ++ b)) told (end-told options _ _ same)
