-- A write, as contracts see it.
use Rattle.std.specs.Prelude.{ℕ}

-- the word with this number is to get the value
pub record Write : Type 0 where
  pub word : ℕ
  pub value : ℕ
