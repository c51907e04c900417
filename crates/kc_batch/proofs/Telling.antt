-- What a receipt tells of a table's log it tells of the run: between two moments of a journal in one table.
use Rattle.std.proofs.Common.{◌≡◌, ℕ, ◌+◌, ◌<◌, ◌≤◌, List, ◌∷◌, ◌++◌, length, get_or, take, drop, sym, ap, ◌∙◌, subst, arith, append_assoc}
use Rattle.std.proofs.Common.{length-append}
use mathlib.Core.List.{IsPrefix}
use Rattle.std.proofs.lemmas.List.{drop_more, length-take-le, take-append-drop}
use Rattle.kc_graph.specs.SimpleGraph.{SimpleGraph}
use Rattle.kc_graph.specs.declared.update.Update.{Update}
use Rattle.kc_table.specs.declared.entry.Entry.{Entry}
use Rattle.kc_table.specs.declared.view.Event.{Event}
use Rattle.kc_table.specs.Edges.{after_entries}
use Rattle.kc_table.specs.Log.{TableName}
use Rattle.kc_table.proofs.LegalLogs.{entries-prefix, after_entries-append}
use Rattle.kc_table.proofs.Prefixes.{prefix_trans}
use Rattle.kc_table.proofs.Stamps.{number-grows}
use Rattle.kc_agree.specs.Stamps.{changes_graph, made_by, number_of}
use Rattle.kc_journal.specs.Entering.{entry_of}
use Rattle.kc_journal.specs.Journals.{Journalled, Stands, entries_here}
use Rattle.kc_journal.specs.declared.answer.Receipt.{Receipt}
use Rattle.kc_journal.proofs.AfterEntry.{number-is}
use Rattle.kc_table.specs.Log.{Opened}
use Rattle.kc_shared.specs.Answers.{IsReceipt}
use Rattle.kc_batch_effects.specs.Entered.{IsUpdateAt}
use Rattle.kc_batch.specs.Receipts.{IsReceiptOf}
use Rattle.kc_batch.specs.Runs.{StaysIn}
use Rattle.kc_batch.specs.Seats.{IsReceiptIn}
use Rattle.kc_batch.proofs.Lists.{prefix-same, prefix-shorter}

-- the update at a place of the batch
pub update_at : (first : ℕ) (batch : List Update) (place : ℕ) (update : Update) → place < length batch → update ≡ get_or batch place update
    → IsUpdateAt first batch (first + place) update
update_at first batch place update here is = record {
  front = take place batch;
  back = drop (place + 1) batch;
  is = sym (take-append-drop place batch)
      ∙ (ap (λ (z : List Update). take place batch ++ z) (drop_more batch place update here)
      ∙ ap (λ (u : Update). take place batch ++ u ∷ drop (place + 1) batch) (sym is));
  index_is = omega (arith, length-take-le place batch (omega arith));
}

-- a receipt of one update of the batch, made since a moment that came no later than the start of the update
pub receipt_in : (o : Opened) (start old new : List Event) (first : ℕ) (batch : List Update) (index : ℕ) (update : Update) (receipt : Receipt)
    → IsPrefix start old → IsUpdateAt first batch index update → IsReceipt o old new index update receipt → IsReceiptIn o start new first batch receipt
receipt_in o start old new first batch index update receipt pre at h = record {
  update = update;
  of = subst (λ (i : ℕ). IsUpdateAt first batch i update) (sym h.index_is) at;
  front = h.front;
  back = h.back;
  is = subst (λ (i : ℕ). (made_by o.table new).entries ≡ h.front ++ entry_of i update ∷ h.back) (sym h.index_is) h.entries;
  place_is = h.place;
  later = omega (arith, h.later, number-grows o.table.shape o.table.opening start old pre);
  applied = subst (λ (i : ℕ). receipt.applied ≡ changes_graph (entry_of i update) (after_entries o.edges h.front)) (sym h.index_is) h.applied;
}

-- it stays so where more has been seen
pub receipt_in-grows : (o : Opened) (start p q : List Event) (first : ℕ) (batch : List Update) (receipt : Receipt) → IsPrefix p q
    → IsReceiptIn o start p first batch receipt → IsReceiptIn o start q first batch receipt
receipt_in-grows o start p q first batch receipt pre h =
    let more = entries-prefix o.table.shape o.table.opening p q pre in
    record {
      update = h.update;
      of = h.of;
      front = h.front;
      back = h.back ++ more.0;
      is = sym more.1 ∙ (ap (λ (z : List Entry). z ++ more.0) h.is ∙ append_assoc h.front (entry_of receipt.index h.update ∷ h.back) more.0);
      place_is = h.place_is;
      later = h.later;
      applied = h.applied;
    }

-- a receipt stays one of a run that goes on
pub receipt_of-grows : (started : SimpleGraph) (entries more : List Entry) (first : ℕ) (batch : List Update) (from : ℕ) (receipt : Receipt)
    → IsPrefix entries more → IsReceiptOf started entries first batch from receipt → IsReceiptOf started more first batch from receipt
receipt_of-grows started entries more first batch from receipt pre h = record {
  update = h.update;
  of = h.of;
  front = h.front;
  back = h.back ++ pre.0;
  is = sym pre.1 ∙ (ap (λ (z : List Entry). z ++ pre.0) h.is ∙ append_assoc h.front (entry_of receipt.index h.update ∷ h.back) pre.0);
  place_is = h.place_is;
  later = h.later;
  applied = h.applied;
}

-- a receipt that counts from a later entry on is one that counts from an earlier one on
pub receipt_of-earlier : (started : SimpleGraph) (entries : List Entry) (first : ℕ) (batch : List Update) (from before : ℕ) (receipt : Receipt)
    → before ≤ from → IsReceiptOf started entries first batch from receipt → IsReceiptOf started entries first batch before receipt
receipt_of-earlier started entries first batch from before receipt le h = record {
  update = h.update;
  of = h.of;
  front = h.front;
  back = h.back;
  is = h.is;
  place_is = h.place_is;
  later = omega (arith, h.later);
  applied = h.applied;
}

-- The entries of the table before this one are those that the run had before the table, and the graph after them is that after the same
-- entries of the run.
module _ (old new : Journalled) (h : Stands old) (k : Stands new) (on : StaysIn old new) where
  -- both have the same entries of the run before the table
  before-same : h.before ≡ k.before
  before-same =
      prefix-same h.before k.before new.entries
      (prefix_trans h.before old.entries new.entries (entries_here old, sym h.entries) on.entries)
      (entries_here new, sym k.entries)
      (h.base ∙ (ap (λ (t : TableName). t.shape.base) (sym on.table) ∙ sym k.base))

  -- the entries of the table are a beginning of those at the end
  here-begins : IsPrefix (entries_here old) (entries_here new)
  here-begins =
      subst (λ (t : TableName). IsPrefix (entries_here old) (made_by t new.levels.log).entries) (sym on.table)
      (entries-prefix old.levels.table.shape old.levels.table.opening old.levels.log new.levels.log on.log)

  -- of entries behind those that the table had
  graph-same : (front : List Entry) → IsPrefix (entries_here old) front → after_entries new.opened front ≡ after_entries new.started (k.before ++ front)
  graph-same front pre =
      let rest = pre.0 in
      let all : old.entries ++ rest ≡ k.before ++ front =
      ap (λ (z : List Entry). z ++ rest) h.entries
      ∙ (append_assoc h.before (entries_here old) rest
      ∙ (ap (λ (z : List Entry). h.before ++ z) pre.1 ∙ ap (λ (z : List Entry). z ++ front) before-same)) in
      ap (λ (z : List Entry). after_entries new.opened z) (sym pre.1)
      ∙ (after_entries-append new.opened (entries_here old) rest
      ∙ (ap (λ (g : SimpleGraph). after_entries (after_entries g (entries_here old)) rest) on.opened
      ∙ (ap (λ (g : SimpleGraph). after_entries g rest) (sym h.from_opening ∙ h.from_start)
      ∙ (sym (after_entries-append old.started old.entries rest)
      ∙ (ap (λ (g : SimpleGraph). after_entries g (old.entries ++ rest)) (sym on.started)
      ∙ ap (λ (z : List Entry). after_entries new.started z) all)))))

  -- a receipt in a log is one of the journal
  pub receipt_of : (o : Opened) (first : ℕ) (batch : List Update) (receipt : Receipt) → o.table ≡ new.levels.table → o.edges ≡ new.opened
      → IsReceiptIn o old.levels.log new.levels.log first batch receipt
      → IsReceiptOf new.started new.entries first batch (length old.entries) receipt
  receipt_of o first batch receipt table edges r =
      let e : Entry = entry_of receipt.index r.update in
      let is : entries_here new ≡ r.front ++ e ∷ r.back = subst (λ (t : TableName). (made_by t new.levels.log).entries ≡ r.front ++ e ∷ r.back) table r.is in
      let number : number_of o.table old.levels.log ≡ length old.entries =
      ap (λ (t : TableName). number_of t old.levels.log) (table ∙ on.table) ∙ number-is old h in
      let base : o.table.shape.base ≡ length k.before = ap (λ (t : TableName). t.shape.base) table ∙ sym k.base in
      let long : length (k.before ++ r.front) ≡ length k.before + length r.front = length-append k.before r.front in
      let early : length old.entries ≡ length h.before + length (entries_here old) =
      ap (λ (z : List Entry). length z) h.entries ∙ length-append h.before (entries_here old) in
      let same : length h.before ≡ length k.before = ap (λ (z : List Entry). length z) before-same in
      let pre : IsPrefix (entries_here old) r.front =
      prefix-shorter (entries_here old) r.front (entries_here new) here-begins (e ∷ r.back, sym is)
      (omega (arith, r.later, number, r.place_is, base, early, same)) in
      record {
        update = r.update;
        of = r.of;
        front = k.before ++ r.front;
        back = r.back;
        is = k.entries ∙ (ap (λ (z : List Entry). k.before ++ z) is ∙ sym (append_assoc k.before r.front (e ∷ r.back)));
        place_is = omega (arith, r.place_is, base, long);
        later = omega (arith, r.later, number, r.place_is, base, long);
        applied = r.applied ∙ ap (λ (g : SimpleGraph). changes_graph e g)
            (ap (λ (g : SimpleGraph). after_entries g r.front) edges ∙ graph-same r.front pre);
      }
