-- Sinks that know whether their reader went away.
use Rattle.std.specs.Prelude.{ℕ, Bool, List, Option}
use Rattle.kc_io.specs.Memory.{SinkState}

-- what contracts see of a sink in memory whose reader goes away: the sink, and whether the last call that failed did so since the reader was gone
pub record PipeState : Type 0 where
  pub sink : SinkState
  pub gone : Bool

-- What contracts see of a writer of std that is such a sink: its bytes, where it tells them, how many calls have failed, and whether the last of
-- these did so since the reader was gone.
pub record WrappedPipe : Type 0 where
  pub told : Option (List ℕ)
  pub failed : ℕ
  pub gone : Bool
