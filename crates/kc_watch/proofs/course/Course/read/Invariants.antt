-- The lines in front of the rest were read, and what they are answered was put.
use Rattle.std.proofs.Common.{◌≡◌, ◌++◌, ℕ, List, length}
use Rattle.kc_stream.specs.Asking.{stream_lines}
use Rattle.kc_stream.specs.Hearing.{Heard, hear_all}
use Rattle.kc_stream.specs.declared.stream_line.StreamLine.{StreamLine}
use Rattle.kc_watch.specs.Text.{answers_behind}
use Rattle.kc_watch.specs.Watching.{StandsAt}
use Rattle.kc_watch.proofs.course.Course.read.Given as goal

abbrev pub invariant-loop-line : goal.invariant-loop-line
invariant-loop-line g l = record {
  parts : (done : List StreamLine) × (stream_lines l.fn.bytes ≡ done ++ stream_lines l.rest)
      × ((heard : Heard) → StandsAt l.fn.self heard → StandsAt l.self (hear_all l.options.bad_lines heard done))
      × ((put : List ℕ) × (l.out.items ≡ l.fn.out.items ++ put)
      × ((heard : Heard) → StandsAt l.fn.self heard → put ≡ answers_behind l.options heard done));
}

abbrev pub decreases-loop-line : goal.decreases-loop-line
decreases-loop-line g l = length l.rest
