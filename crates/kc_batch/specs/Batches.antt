-- What a batch leaves behind.
use Rattle.std.specs.Prelude.{◌≡◌, ◌<◌, ◌≤◌, ◌+◌, ◌⊎◌, ⊤, ℕ, List, [], ◌∷◌, ◌++◌, All, Contains, Option, None, Some, length, map, slice_index_or, sum_by}
use Rattle.std.specs.List.{flat_map}
use Rattle.kc_lists.specs.Lists.{times}
use Rattle.kc_graph.specs.declared.update.Update.{Update}
use Rattle.kc_table.specs.declared.entry.Entry.{Entry}
use Rattle.kc_table.specs.Log.{PassSeen, TableName}
use Rattle.kc_batch_effects.specs.Entered.{AreSomeOf}
use Rattle.kc_journal.specs.Journals.{Journalled}
use Rattle.kc_journal.specs.declared.answer.Receipt.{Receipt}
use Rattle.kc_queue.specs.Shares.{Consuming, IsShare, AreAllBelow}
use Rattle.kc_queue.specs.declared.consumer.TheConstants.{PARTS}
use Rattle.kc_shared.specs.States.{opened_by}
use Rattle.kc_shared.specs.declared.shared.TheConstants.{MISSES}
use Rattle.kc_workers.specs.declared.done.Done.{Done}
use Rattle.kc_workers.specs.declared.share.WorkerShare.{WorkerShare}
use Rattle.kc_batch.specs.Desks.{Desked, Work, all_done, all_receipts, at_places, at_turns, times_had}
use Rattle.kc_batch.specs.Receipts.{AreBatchReceipts, AreReceiptsOf, IsReceiptOf}
use Rattle.kc_batch.specs.Runs.{WentOn}
use Rattle.kc_batch.specs.Seats.{HasTrueMisses}
use Rattle.kc_batch.specs.declared.done.BatchDone.{BatchDone}
use Rattle.kc_batch.specs.declared.done.CutShort.{CutShort}
use Rattle.kc_batch.specs.declared.left.Left.{Left}
use Rattle.kc_batch.specs.declared.left.Left.TheVariants as left
use Rattle.kc_batch.specs.declared.turns.TurnQueue.{TurnQueue}
use Rattle.kc_batch.specs.declared.state.BatchState.{BatchState}
use Rattle.kc_batch.specs.declared.standing.Standing.{Standing}
use Rattle.kc_batch.specs.declared.standing.Standing.TheVariants as standing

-- all that the workers have entered and told
abbrev pub done_in : List WorkerShare → List Done
done_in shares = flat_map (λ s. s.done.items) shares

-- the receipts of all that the workers have entered and told
abbrev pub receipts_in : List WorkerShare → List Receipt
receipts_in shares = map (λ d. d.receipt) (done_in shares)

-- a receipt, if there is one
abbrev pub one_receipt : Option Receipt → List Receipt
one_receipt None = []
one_receipt (Some receipt) = receipt ∷ []

-- the receipts of all that a worker has entered: of what it told, and of an update that was entered when memory ran out
abbrev pub entered_by : WorkerShare → List Receipt
entered_by s = map (λ d. d.receipt) s.done.items ++ one_receipt s.untold

-- the receipts of all that the workers have entered
abbrev pub entered_in : List WorkerShare → List Receipt
entered_in shares = flat_map entered_by shares

-- The run went on so over these tables, of which no more were ended than the batch has updates, and made some entries of the batch's updates,
-- each at most once.
pub record WentOnBy (old new : Journalled) (first : ℕ) (batch : List Update) (ended : List PassSeen) (made : List Entry) : Type 0 where
  pub went : WentOn old ended new
  pub entries : new.entries ≡ old.entries ++ made
  pub some : AreSomeOf first batch made
  pub few_tables : length ended ≤ length batch

-- Where no table was ended, each miss is true from the start of the call to its end. Where one was, nothing more is said of them.
abbrev pub AreTrueMisses : Journalled → Journalled → List PassSeen → List Done → Type 0
AreTrueMisses old new ended done = ended ≡ [] → All (HasTrueMisses (opened_by new) old.levels.log new.levels.log) done

-- Each update of the batch was entered once, and stands in one share once; all were told. There is one share for each worker, in turn.
pub record IsBatchDone (old new : Journalled) (first : ℕ) (batch : List Update) (workers : ℕ) (done : BatchDone) : Type 0 where
  pub made : List Entry
  pub went : WentOnBy old new first batch done.ended.items made
  pub as_many : length made ≡ length batch
  pub receipts : AreBatchReceipts new.started new.entries first batch (length old.entries) (receipts_in done.shares.items)
  pub told : All (λ s. s.untold ≡ None) done.shares.items
  pub one_each : length done.shares.items ≡ workers
  pub numbered : (i : ℕ) (d : WorkerShare) → i < length done.shares.items → (slice_index_or done.shares.items i d).worker ≡ i
  pub few : All (λ d. length d.misses.items ≤ MISSES) (done_in done.shares.items)
  pub misses : AreTrueMisses old new done.ended.items (done_in done.shares.items)

-- Memory ran out. Nothing but some of the batch's updates was entered, each at most once; each entry has one receipt in the shares, and no
-- other receipt is there. There is one share for each worker, in turn, or there is none, and then nothing was entered.
pub record IsCutShort (old new : Journalled) (first : ℕ) (batch : List Update) (workers : ℕ) (cut : CutShort) : Type 0 where
  pub made : List Entry
  pub went : WentOnBy old new first batch cut.ended.items made
  pub receipts : AreReceiptsOf new.started new.entries first batch (length old.entries) made (entered_in cut.shares.items)
  pub one_each : (length cut.shares.items ≡ workers) ⊎ ((cut.shares.items ≡ []) × (made ≡ []))
  pub numbered : (i : ℕ) (d : WorkerShare) → i < length cut.shares.items → (slice_index_or cut.shares.items i d).worker ≡ i
  pub few : All (λ d. length d.misses.items ≤ MISSES) (done_in cut.shares.items)
  pub misses : AreTrueMisses old new cut.ended.items (done_in cut.shares.items)

-- How it stands with tables where one was ended in the call. The present one opened at version 0, when as many entries were made in the call
-- as tables were ended before it, all but one, and not yet as many as the batch has updates. Where no entry was made in it, nothing was
-- stored in it.
pub record KeepsPace (old now : Journalled) (batch : List Update) (ended : List PassSeen) : Type 0 where
  pub version : now.levels.table.shape.version ≡ 0
  pub slow : length old.entries + length ended ≤ now.levels.table.shape.base + 1
  pub some_left : now.levels.table.shape.base < length old.entries + length batch
  pub quiet : length now.entries ≡ now.levels.table.shape.base → now.levels.log ≡ []

-- What holds of the work between two rounds: the run went on, what was entered is told by receipts, and what was taken is what the workers
-- have entered and have in hand.
pub record Account (old now : Journalled) (first : ℕ) (batch : List Update) (ended : List PassSeen) (works : List Work) (taken : List ℕ)
    : Type 0 where
  pub went : WentOn old ended now
  pub receipts : All (IsReceiptOf now.started now.entries first batch (length old.entries)) (all_receipts works)
  pub count : length now.entries ≡ length old.entries + length (all_receipts works)
  pub balance : (y : ℕ) → sum_by (times_had first y) works ≡ times y (at_places first taken)
  pub few : All (λ d. length d.misses.items ≤ MISSES) (all_done works)
  pub misses : AreTrueMisses old now ended (all_done works)
  pub pace : (ended ≡ []) ⊎ KeepsPace old now batch ended

-- What holds of a batch between two rounds: its account, of the places that have the turns that were taken; each worker has been told the
-- whole log; the consumer has all parts of the queue; and each place has one turn.
pub record IsBatchState (old : Journalled) (first : ℕ) (batch : List Update) (ended : List PassSeen) (turns : TurnQueue) (words : TableName)
    (now : Journalled) (desks : List Desked) (consumer : Consuming) : Type 0 where
  pub account : Account old now first batch ended (map (λ d. d.work) desks) (at_turns turns.order.items consumer.taken)
  pub table : now.levels.table ≡ words
  pub told : All (λ d. d.seen ≡ record { table = words; log = now.levels.log }) desks
  pub of_queue : consumer.queue ≡ turns.queue
  pub parts : consumer.parts ≡ PARTS
  pub share : IsShare turns.queue.count consumer.taken
  pub order : AreAllBelow turns.queue.count turns.order.items

-- It holds of this state of the batch of these turns, which began with this journal.
abbrev pub IsStateOfBatch : Journalled → TurnQueue → List PassSeen → BatchState → Type 0
IsStateOfBatch began turns ended s =
    IsBatchState began turns.batch.first turns.batch.updates.now ended turns s.parts.words s.parts.journal s.desks.items s.consumer

-- The first desk keeps the update at this place, and nothing else has changed.
abbrev pub Gives : ℕ → List Desked → List Desked → Type 0
Gives place [] new = ⊥
Gives place (d ∷ ds) new = new ≡ record d { work = record { done = d.work.done; left = left.Kept place } } ∷ ds

-- what a worker may have left where it can go on
abbrev pub MayGoOn : Left → Type 0
MayGoOn left.Nothing = ⊤
MayGoOn (left.Kept place) = ⊤
MayGoOn (left.Dropped place) = ⊥
MayGoOn (left.Untold receipt) = ⊥

-- a worker keeps an update
abbrev pub SomeKeeps : List Work → Type 0
SomeKeeps works = (w : Work) × (place : ℕ) × Contains works w × (w.left ≡ left.Kept place)

-- for a worker's update there was no memory, to enter it or to tell of it
abbrev pub SomeCannot : List Work → Type 0
SomeCannot works = (w : Work) × Contains works w × (MayGoOn w.left → ⊥)

-- How all work stands: nothing is left; something is kept and none was dropped; or memory ran out.
abbrev pub IsStanding : List Work → Standing → Type 0
IsStanding works standing.Free = All (λ w. w.left ≡ left.Nothing) works
IsStanding works standing.Keeping = All (λ w. MayGoOn w.left) works × SomeKeeps works
IsStanding works standing.Short = SomeCannot works
