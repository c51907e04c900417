-- What contracts see of a reader or a writer of std that is wrapped.
use Rattle.std.specs.Prelude.{ℕ, List, Option}

-- the bytes that a reader has left or a writer holds, where it tells them itself, and how many calls have failed
pub record Wrapped : Type 0 where
  pub told : Option (List ℕ)
  pub failed : ℕ
