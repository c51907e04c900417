-- What a batch's updates have become of a run: entries, each told by one receipt. Nothing here speaks of tables.
use Rattle.std.specs.Prelude.{◌≡◌, ◌≤◌, ◌<◌, ◌+◌, ℕ, true, List, ◌∷◌, ◌++◌, All, length, map}
use Rattle.kc_lists.specs.Lists.{Distinct, member}
use Rattle.kc_graph.specs.SimpleGraph.{SimpleGraph}
use Rattle.kc_graph.specs.declared.update.Update.{Update}
use Rattle.kc_table.specs.declared.entry.Entry.{Entry}
use Rattle.kc_table.specs.Edges.{after_entries}
use Rattle.kc_agree.specs.Stamps.{changes_graph}
use Rattle.kc_batch_effects.specs.Entered.{IsUpdateAt}
use Rattle.kc_journal.specs.Entering.{entry_of}
use Rattle.kc_journal.specs.declared.answer.Receipt.{Receipt}

-- The receipt names an entry behind the first `from`: it is the update of the batch that has the receipt's index, its place in the run is
-- the receipt's, and the receipt tells whether it changed the edges that the entries before it have made.
pub record IsReceiptOf (started : SimpleGraph) (entries : List Entry) (first : ℕ) (batch : List Update) (from : ℕ) (receipt : Receipt)
    : Type 0 where
  pub update : Update
  pub of : IsUpdateAt first batch receipt.index update
  pub front : List Entry
  pub back : List Entry
  pub is : entries ≡ front ++ entry_of receipt.index update ∷ back
  pub place_is : receipt.place ≡ length front + 1
  pub later : from ≤ length front
  pub applied : receipt.applied ≡ changes_graph (entry_of receipt.index update) (after_entries started front)

-- the indices that receipts tell of
abbrev pub told_indices : List Receipt → List ℕ
told_indices receipts = map (λ r. r.index) receipts

-- Each of these entries, which were made behind the first `from`, has one receipt among these, and there is no other: each is of one of them,
-- no two are of one index, and they are as many.
pub record AreReceiptsOf (started : SimpleGraph) (entries : List Entry) (first : ℕ) (batch : List Update) (from : ℕ) (made : List Entry)
    (receipts : List Receipt) : Type 0 where
  pub each : All (IsReceiptOf started entries first batch from) receipts
  pub once : Distinct (told_indices receipts)
  pub as_many : length receipts ≡ length made
  pub all : All (λ e. member e.index (told_indices receipts) ≡ true) made

-- Each update of the batch has one receipt among these, and there is no other.
pub record AreBatchReceipts (started : SimpleGraph) (entries : List Entry) (first : ℕ) (batch : List Update) (from : ℕ) (receipts : List Receipt)
    : Type 0 where
  pub each : All (IsReceiptOf started entries first batch from) receipts
  pub once : Distinct (told_indices receipts)
  pub all : (place : ℕ) → place < length batch → member (first + place) (told_indices receipts) ≡ true
