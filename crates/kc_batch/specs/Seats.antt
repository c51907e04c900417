-- What contracts see of a worker in one round, and what becomes of its desk there.
use Rattle.std.specs.Prelude.{◌≡◌, ◌<◌, ◌≤◌, ◌+◌, ◌⊎◌, ⊤, ℕ, List, [], ◌∷◌, ◌++◌, All, Contains, None, Some, Result, Ok, Err, length, sum_by}
use Rattle.std.specs.List.{flat_map}
use mathlib.Core.List.{IsPrefix}
use Rattle.kc_lists.specs.Lists.{times}
use Rattle.kc_graph.specs.declared.update.Update.{Update}
use Rattle.kc_words.specs.declared.layout.TheConstants.{INDICES}
use Rattle.kc_table.specs.declared.entry.Entry.{Entry}
use Rattle.kc_table.specs.declared.view.Event.{Event}
use Rattle.kc_table.specs.Edges.{after_entries}
use Rattle.kc_table.specs.Legal.{Legal}
use Rattle.kc_table.specs.Log.{Seen}
use Rattle.kc_agree.specs.Stamps.{changes_graph, made_by, number_of}
use Rattle.kc_levels.specs.declared.levels.TheConstants.{LAST_NUMBER}
use Rattle.kc_batch_effects.specs.Entered.{IsUpdateAt}
use Rattle.kc_journal.specs.Entering.{entry_of}
use Rattle.kc_journal.specs.declared.answer.EnterFault.TheVariants as enter
use Rattle.kc_journal.specs.declared.answer.Receipt.{Receipt}
use Rattle.kc_queue.specs.Shares.{AreAllBelow, Consuming, FilledQueue}
use Rattle.kc_table.specs.Log.{Opened}
use Rattle.kc_shared.specs.Misses.{IsTrueMiss}
use Rattle.kc_shared.specs.declared.fault.SharedFault.{SharedFault}
use Rattle.kc_shared.specs.declared.fault.SharedFault.TheVariants as fault
use Rattle.kc_shared.specs.declared.shared.TheConstants.{MISSES}
use Rattle.kc_workers.specs.declared.done.Done.{Done}
use Rattle.kc_batch.specs.Desks.{Desked, KeepsOneOf, Work, all_done, all_receipts, at_places, at_turns, receipts_of, times_had}
use Rattle.kc_batch.specs.Runs.{IsNearlySpent}
use Rattle.kc_batch.specs.declared.left.Left.{Left}
use Rattle.kc_batch.specs.declared.left.Left.TheVariants as left
use Rattle.kc_batch.specs.declared.turns.TurnQueue.{TurnQueue}

-- what the worker has seen, its work, how many entries its part of the ledger counts, what it has taken of the queue, and its number
pub record Seated : Type 0 where
  pub seen : Seen
  pub work : Work
  pub amount : ℕ
  pub consumer : Consuming
  pub number : ℕ

-- what the worker has seen, and its work
abbrev pub desk_of : Seated → Desked
desk_of s = record { seen = s.seen; work = s.work }

-- It has entered nothing yet, and taken nothing of the queue.
pub record IsFreshSeat (queue : FilledQueue) (s : Seated) : Type 0 where
  pub consumer : s.consumer ≡ record { queue = queue; parts = 1; taken = [] }
  pub amount : s.amount ≡ 0

-- There is one turn for each update of the batch, each place has one, and each update has an index.
pub record AreTurnsOf (turns : TurnQueue) : Type 0 where
  pub count : turns.queue.count ≡ length turns.batch.updates.now
  pub order : AreAllBelow turns.queue.count turns.order.items
  pub indices : turns.batch.first + length turns.batch.updates.now ≤ INDICES

-- The log of the table has the entry that the receipt names, behind those of `start`: an update of the batch under its index. The receipt
-- tells whether it changed the edges.
pub record IsReceiptIn (o : Opened) (start log : List Event) (first : ℕ) (batch : List Update) (receipt : Receipt) : Type 0 where
  pub update : Update
  pub of : IsUpdateAt first batch receipt.index update
  pub front : List Entry
  pub back : List Entry
  pub is : (made_by o.table log).entries ≡ front ++ entry_of receipt.index update ∷ back
  pub place_is : receipt.place ≡ o.table.shape.base + length front + 1
  pub later : number_of o.table start < receipt.place
  pub applied : receipt.applied ≡ changes_graph (entry_of receipt.index update) (after_entries o.edges front)

-- at most `MISSES` misses, each true from `start` on
abbrev pub HasTrueMisses : Opened → List Event → List Event → Done → Type 0
HasTrueMisses o start log done = (length done.misses.items ≤ MISSES) × All (IsTrueMiss o start log) done.misses.items

-- where an update is kept, the versions of the table are nearly spent, or its entries can't be numbered further
abbrev pub KeepsIfSpent : Opened → List Event → Left → Type 0
KeepsIfSpent o log left.Nothing = ⊤
KeepsIfSpent o log (left.Kept place) = IsNearlySpent o.table log ⊎ (LAST_NUMBER ≤ number_of o.table log)
KeepsIfSpent o log (left.Dropped place) = ⊤
KeepsIfSpent o log (left.Untold receipt) = ⊤

-- the work after an update at this place was tried: it is done, or is kept, or is dropped, or was entered when memory ran out
abbrev pub noted : ℕ → Result Done SharedFault → Work → Work
noted place (Ok done) w = record { done = w.done ++ done ∷ []; left = left.Nothing }
noted place (Err (fault.Untold receipt)) w = record { done = w.done; left = left.Untold receipt }
noted place (Err (fault.Enter (enter.Full entries))) w = w
noted place (Err (fault.Enter (enter.Stale vertex edges used now))) w = w
noted place (Err (fault.Enter (enter.Spent highest needed))) w = w
noted place (Err (fault.Enter enter.NoMemory)) w = record { done = w.done; left = left.Dropped place }

-- The worker knows what the log was when the round began, and may go on.
pub record CanGoOn (o : Opened) (start : List Event) (count : ℕ) (s : Seated) : Type 0 where
  pub told : IsPrefix start s.seen.log
  pub legal : Legal o.table.shape o.table.opening s.seen.log
  pub keeps : KeepsOneOf count s.work.left

-- What a worker makes of its work: it enters updates that it has kept or taken, each once, and its part of the ledger counts them. What has
-- the turns that it took, in the order of the batch's places, is what it has entered and what it has in hand.
pub record Works (o : Opened) (start : List Event) (first : ℕ) (batch : List Update) (order : List ℕ) (old new : Seated) : Type 0 where
  pub longer : IsPrefix old.seen.log new.seen.log
  pub legal : Legal o.table.shape o.table.opening new.seen.log
  pub queue : new.consumer.queue ≡ old.consumer.queue
  pub parts : new.consumer.parts ≡ old.consumer.parts
  pub number : new.number ≡ old.number
  pub more : List Done
  pub done : new.work.done ≡ old.work.done ++ more
  pub misses : All (HasTrueMisses o start new.seen.log) more
  pub added : List Receipt
  pub receipts : receipts_of new.work ≡ receipts_of old.work ++ added
  pub told : All (IsReceiptIn o start new.seen.log first batch) added
  pub amount : new.amount ≡ old.amount + length added
  pub balance : (y : ℕ) → times_had first y new.work + times y (at_places first (at_turns order old.consumer.taken))
      ≡ times_had first y old.work + times y (at_places first (at_turns order new.consumer.taken))

-- The same, of what a queue of turns has.
abbrev pub WorksOn : Opened → List Event → TurnQueue → Seated → Seated → Type 0
WorksOn o start turns old new = Works o start turns.batch.first turns.batch.updates.now turns.order.items old new

-- how many entries all of them count
abbrev pub amounts : List Seated → ℕ
amounts seats = sum_by (λ s. s.amount) seats

-- all numbers that they have taken
abbrev pub all_taken : List Seated → List ℕ
all_taken seats = flat_map (λ s. s.consumer.taken) seats

-- What one round makes of all work: what was entered in it has receipts, and the misses were true; as many were entered as the ledger has
-- counted; and what was taken of the queue is what all have entered and have in hand.
pub record Rounds (o : Opened) (start log : List Event) (first : ℕ) (batch : List Update) (old new : List Work) (before after : List ℕ) (made : ℕ)
    : Type 0 where
  pub as_many : length new ≡ length old
  pub done : All (λ d. Contains (all_done old) d ⊎ HasTrueMisses o start log d) (all_done new)
  pub receipts : All (λ r. Contains (all_receipts old) r ⊎ IsReceiptIn o start log first batch r) (all_receipts new)
  pub count : length (all_receipts new) ≡ length (all_receipts old) + made
  pub balance : (y : ℕ) → sum_by (times_had first y) new + times y (at_places first before)
      ≡ sum_by (times_had first y) old + times y (at_places first after)
  pub spent : All (λ w. KeepsIfSpent o log w.left) new

-- The same, of what a queue of turns has, and by the turns that were taken of it before the round and after it.
abbrev pub RoundsOn : Opened → List Event → List Event → TurnQueue → List Work → List Work → List ℕ → List ℕ → ℕ → Type 0
RoundsOn o start log turns old new before after made =
    Rounds o start log turns.batch.first turns.batch.updates.now old new (at_turns turns.order.items before) (at_turns turns.order.items after) made
