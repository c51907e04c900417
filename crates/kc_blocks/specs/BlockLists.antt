-- What contracts see of a list that is kept in blocks.
use Rattle.std.specs.Prelude.{ℕ, List}

-- the entries, in order
pub record BlockEntries : Type 0 where
  pub items : List ℕ
