-- How bytes go through a page to a sink.
use Rattle.std.specs.Prelude.{◌≡◌, ◌≤◌, ◌++◌, ℕ, List, Option, length, take}
use Rattle.std.specs.Io.KnownBytes.{Appends}

-- A text was put behind a page: some of the front of both was taken, and the rest is on the page then.
pub record PassesOn (before after : Option (List ℕ)) (page page' text : List ℕ) : Type 0 where
  pub passed : List ℕ
  pub took : Appends before after passed
  pub rest : passed ++ page' ≡ page ++ text

-- a prefix of a page and a text behind it was taken
pub record PassesPart (before after : Option (List ℕ)) (page text : List ℕ) : Type 0 where
  pub amount : ℕ
  pub within : amount ≤ length (page ++ text)
  pub took : Appends before after (take amount (page ++ text))
