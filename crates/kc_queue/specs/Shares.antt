-- What contracts see of a work queue and of its consumers.
use Rattle.std.specs.Prelude.{◌≡◌, ◌<◌, ℕ, true, List, []}
use Rattle.atomic_table.specs.Seated.{TableId}
use Rattle.kc_lists.specs.Lists.{member, Distinct}

-- which queue it is, and how many numbers it was filled with
pub record FilledQueue : Type 0 where
  pub id : TableId
  pub count : ℕ

-- the queue, the parts of the right to know what all have taken, and the numbers that this consumer has taken, in its order
pub record Consuming : Type 0 where
  pub queue : FilledQueue
  pub parts : ℕ
  pub taken : List ℕ

-- numbers below `count`, none of them twice
pub record IsShare (count : ℕ) (taken : List ℕ) : Type 0 where
  pub once : Distinct taken
  pub below : (x : ℕ) → member x taken ≡ true → x < count

-- all numbers below `count`, each once, and no other
pub record AreAllBelow (count : ℕ) (taken : List ℕ) : Type 0 where
  pub share : IsShare count taken
  pub all : (x : ℕ) → x < count → member x taken ≡ true

-- the name of no queue
abbrev pub no_queue : FilledQueue
no_queue = record { id = record { words = 0; slots = 0; views_name = 0; atom = 0; block = 0; offset = 0; slot_names = [] }; count = 0 }
