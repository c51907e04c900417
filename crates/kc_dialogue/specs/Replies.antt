-- How the replies to bytes, to more bytes and to the end of the input fit together.
use Rattle.std.specs.Prelude.{◌≡◌, ◌++◌, ℕ, List}

-- the text begins with this one
abbrev pub IsPrefixOf : List ℕ → List ℕ → Type 0
IsPrefixOf text front = (rest : List ℕ) × (text ≡ front ++ rest)

-- whatever bytes follow these, and also where the input ends there, the reply is the one to these
abbrev pub StaysFrom : (List ℕ → List ℕ) → (List ℕ → List ℕ) → List ℕ → Type 0
StaysFrom reply reply_at_end fed = (more : List ℕ) → (reply (fed ++ more) ≡ reply fed) × (reply_at_end (fed ++ more) ≡ reply fed)
