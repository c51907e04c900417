-- What contracts see of a worker's desk, and how what was taken is counted.
use Rattle.std.specs.Prelude.{◌<◌, ◌+◌, ⊤, ℕ, List, [], ◌∷◌, ◌++◌, Option, None, Some, map, slice_index_or}
use Rattle.std.specs.List.{flat_map}
use Rattle.kc_lists.specs.Lists.{times}
use Rattle.kc_table.specs.Log.{Seen}
use Rattle.kc_journal.specs.declared.answer.Receipt.{Receipt}
use Rattle.kc_workers.specs.declared.done.Done.{Done}
use Rattle.kc_batch.specs.Receipts.{told_indices}
use Rattle.kc_batch.specs.declared.left.Left.{Left}
use Rattle.kc_batch.specs.declared.left.Left.TheVariants.{Nothing, Kept, Dropped, Untold}

-- what a worker has entered in this call, and what it has left of the updates that it took
pub record Work : Type 0 where
  pub done : List Done
  pub left : Left

-- the log that a worker has seen, with its table, and the worker's part of this call
pub record Desked : Type 0 where
  pub seen : Seen
  pub work : Work

-- an update that was entered when memory ran out
abbrev pub untold : Left → List Receipt
untold Nothing = []
untold (Kept place) = []
untold (Dropped place) = []
untold (Untold receipt) = receipt ∷ []

-- its receipt, if there is such an update
abbrev pub untold_of : Left → Option Receipt
untold_of Nothing = None
untold_of (Kept place) = None
untold_of (Dropped place) = None
untold_of (Untold receipt) = Some receipt

-- the index of an update that was taken and not entered
abbrev pub in_hand : ℕ → Left → List ℕ
in_hand first Nothing = []
in_hand first (Kept place) = (first + place) ∷ []
in_hand first (Dropped place) = (first + place) ∷ []
in_hand first (Untold receipt) = []

-- the receipts of all that the worker has entered
abbrev pub receipts_of : Work → List Receipt
receipts_of w = map (λ done. done.receipt) w.done ++ untold w.left

-- the indices of updates at these places of the batch
abbrev pub at_places : ℕ → List ℕ → List ℕ
at_places first places = map (λ place. first + place) places

-- the places that have these turns, in the order in which places are taken
abbrev pub at_turns : List ℕ → List ℕ → List ℕ
at_turns order turns = map (λ turn. slice_index_or order turn 0) turns

-- how often the index stands among those of what the worker has entered and of what it has in hand
abbrev pub times_had : ℕ → ℕ → Work → ℕ
times_had first y w = times y (told_indices (receipts_of w)) + times y (in_hand first w.left)

-- what all of them have entered
abbrev pub all_done : List Work → List Done
all_done works = flat_map (λ w. w.done) works

-- the receipts of what all of them have entered
abbrev pub all_receipts : List Work → List Receipt
all_receipts works = flat_map receipts_of works

-- what a worker keeps, if it keeps something, is one of so many updates, and it has dropped none
abbrev pub KeepsOneOf : ℕ → Left → Type 0
KeepsOneOf count Nothing = ⊤
KeepsOneOf count (Kept place) = place < count
KeepsOneOf count (Dropped place) = ⊥
KeepsOneOf count (Untold receipt) = ⊥
