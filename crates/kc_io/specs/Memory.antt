-- What contracts see of a source and of a sink in memory.
use Rattle.std.specs.Prelude.{ℕ, List}
use Rattle.kc_io.specs.Calls.{CallsSoFar}
use Rattle.kc_io.specs.Offers.{Offers}

-- the bytes that are left, the most bytes that a read gives, and the calls
pub record SourceState : Type 0 where
  pub left : List ℕ
  pub per_read : ℕ
  pub calls : CallsSoFar

-- the bytes that were taken, how long the first piece was that was offered (0 before any), the pieces so far, the
-- most bytes that are taken in all and by a write, and the calls
pub record SinkState : Type 0 where
  pub taken : List ℕ
  pub first : ℕ
  pub offers : Offers
  pub most : ℕ
  pub per_write : ℕ
  pub calls : CallsSoFar
