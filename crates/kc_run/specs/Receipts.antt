-- The receipts of a run.
use Rattle.std.specs.Prelude.{◌≡◌, ◌+◌, ◌<◌, ℕ, true, List, ◌∷◌, ◌++◌, All, length}
use Rattle.kc_lists.specs.Lists.{Distinct, member}
use Rattle.kc_graph.specs.SimpleGraph.{SimpleGraph}
use Rattle.kc_table.specs.declared.entry.Entry.{Entry}
use Rattle.kc_table.specs.Edges.{after_entries}
use Rattle.kc_agree.specs.Stamps.{changes_graph}
use Rattle.kc_journal.specs.declared.answer.Receipt.{Receipt}
use Rattle.kc_batch.specs.Receipts.{told_indices}

-- The receipt is of an entry of a run that began with `started`: it has the entry's index, its place among the entries from 1, and whether
-- it changed the edges that those before it have made.
pub record IsReceiptAmong (started : SimpleGraph) (entries : List Entry) (receipt : Receipt) : Type 0 where
  pub front : List Entry
  pub entry : Entry
  pub back : List Entry
  pub is : entries ≡ front ++ entry ∷ back
  pub index_is : receipt.index ≡ entry.index
  pub place_is : receipt.place ≡ length front + 1
  pub applied : receipt.applied ≡ changes_graph entry (after_entries started front)

-- Each of the first `count` indices has one receipt among these, and there is no other.
pub record HasOneEach (started : SimpleGraph) (entries : List Entry) (count : ℕ) (receipts : List Receipt) : Type 0 where
  pub each : All (IsReceiptAmong started entries) receipts
  pub once : Distinct (told_indices receipts)
  pub within : All (λ receipt. receipt.index < count) receipts
  pub all : (index : ℕ) → index < count → member index (told_indices receipts) ≡ true
