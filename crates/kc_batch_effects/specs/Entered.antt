-- The updates of a batch among the entries of a run, in whatever order they were entered.
use Rattle.std.specs.Prelude.{◌≡◌, ◌+◌, ◌<◌, ◌≤◌, ℕ, List, ◌∷◌, ◌++◌, All, length, map}
use Rattle.kc_lists.specs.Lists.{Distinct}
use Rattle.kc_graph.specs.declared.update.Update.{Update}
use Rattle.kc_table.specs.declared.entry.Entry.{Entry}
use Rattle.kc_text.specs.Inputs.{EdgeUpdate, parts_of}

-- The batch has this update under this index: its updates are numbered in turn, from `first` on.
pub record IsUpdateAt (first : ℕ) (batch : List Update) (index : ℕ) (update : Update) : Type 0 where
  pub front : List Update
  pub back : List Update
  pub is : batch ≡ front ++ update ∷ back
  pub index_is : index ≡ first + length front

-- the number is the index of some update of the batch
abbrev pub IsIndexOf : ℕ → List Update → ℕ → Type 0
IsIndexOf first batch index = (first ≤ index) × (index < first + length batch)

-- the sign of an entry, and its two ends
abbrev pub parts_of_entry : Entry → EdgeUpdate
parts_of_entry e = record { add = e.add; u = e.u; v = e.v }

-- the entry is an update of the batch, under its index
abbrev pub IsOneOf : ℕ → List Update → Entry → Type 0
IsOneOf first batch e = (update : Update) × IsUpdateAt first batch e.index update × (parts_of_entry e ≡ parts_of update)

-- the indices of entries
abbrev pub indices : List Entry → List ℕ
indices made = map (λ e. e.index) made

-- Each of these entries is an update of the batch, and none comes twice.
pub record AreSomeOf (first : ℕ) (batch : List Update) (made : List Entry) : Type 0 where
  pub each : All (IsOneOf first batch) made
  pub once : Distinct (indices made)

-- The same, and there are as many as the batch has: it is entered whole, in some order.
pub record IsOrderOf (first : ℕ) (batch : List Update) (made : List Entry) : Type 0 where
  pub some : AreSomeOf first batch made
  pub as_many : length made ≡ length batch
