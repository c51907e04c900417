-- What one step of a worker makes of its work, and what the steps of a round make together.
use Rattle.std.proofs.Common.{◌≡◌, ℕ, ◌+◌, ◌<◌, List, [], ◌∷◌, ◌++◌, All, None, Some, Result, Ok, Err, IfErr, IfOk, MatchResult, get_or, length, map}
use Rattle.std.proofs.Common.{inl, inr, refl, sym, ap, ◌∙◌, subst, arith, append_assoc, append-nil, length-append}
use mathlib.Core.List.{IsPrefix}
use Rattle.std.proofs.lemmas.List.{map-append}
use Rattle.std.proofs.lemmas.List.Elements.{All-append, All-cons, All-nil, All-weaker}
use Rattle.kc_lists.specs.Lists.{times}
use Rattle.kc_graph.specs.declared.update.Update.{Update}
use Rattle.kc_table.specs.declared.view.Event.{Event}
use Rattle.kc_table.specs.Legal.{Legal}
use Rattle.kc_table.specs.Log.{Seen}
use Rattle.kc_table.proofs.Prefixes.{prefix_self, prefix_trans}
use Rattle.kc_journal.specs.declared.answer.EnterFault.TheVariants as enter
use Rattle.kc_journal.specs.declared.answer.Receipt.{Receipt}
use Rattle.kc_queue.specs.Shares.{Consuming}
use Rattle.kc_queue.proofs.Counts.{times-append}
use Rattle.kc_table.specs.Log.{Opened}
use Rattle.kc_shared.specs.Answers.{IsReceipt, entered_at}
use Rattle.kc_shared.specs.Misses.{IsTrueMiss}
use Rattle.kc_shared.specs.declared.fault.SharedFault.{SharedFault}
use Rattle.kc_shared.specs.declared.fault.SharedFault.TheVariants as fault
use Rattle.kc_shared.proofs.Staying.{stays-true}
use Rattle.kc_workers.specs.Updates.{HasUpdateCause, IsUpdateDone}
use Rattle.kc_workers.specs.declared.done.Done.{Done}
use Rattle.kc_batch.specs.Desks.{Desked, KeepsOneOf, Work, at_places, at_turns, in_hand, receipts_of, untold}
use Rattle.kc_batch_effects.specs.Entered.{IsUpdateAt}
use Rattle.kc_batch.specs.Receipts.{told_indices}
use Rattle.kc_batch.specs.Seats.{HasTrueMisses, CanGoOn, IsReceiptIn, KeepsIfSpent, Seated, Works, noted}
use Rattle.kc_batch.specs.declared.left.Left.{Left}
use Rattle.kc_batch.specs.declared.left.Left.TheVariants.{Nothing, Kept, Dropped, Untold}
use Rattle.kc_batch.proofs.Going.{nearly_spent}
use Rattle.kc_batch.proofs.Telling.{receipt_in, receipt_in-grows, update_at}

-- an index stands in two lists of receipts as often as in each, together
pub told-append : (y : ℕ) (rs more : List Receipt) → times y (told_indices (rs ++ more)) ≡ times y (told_indices rs) + times y (told_indices more)
told-append y rs more =
    ap (times y) (map-append (λ (r : Receipt). r.index) rs more) ∙ times-append y (told_indices rs) (told_indices more)

-- true misses stay so where more has been seen, and are true since any earlier moment
pub misses-stay : (o : Opened) (earlier start log more : List Event) (done : Done) → Legal o.table.shape o.table.opening more
    → IsPrefix earlier start → IsPrefix start log → IsPrefix log more → HasTrueMisses o start log done → HasTrueMisses o earlier more done
misses-stay o earlier start log more done legal before within after h = (
  h.0,
  All-weaker (IsTrueMiss o start log) (IsTrueMiss o earlier more) (λ m t. stays-true o earlier start log more m legal before within after t)
      done.misses.items h.1,
)

-- where nothing is left nothing is kept
pub keeps-nothing : (count : ℕ) (left : Left) → left ≡ Nothing → KeepsOneOf count left
keeps-nothing count left none = subst (KeepsOneOf count) (sym none) tt

-- what may be kept, and is not, is nothing
pub nothing-kept : (count : ℕ) (left : Left) → KeepsOneOf count left → ((place : ℕ) → left ≡ Kept place → ⊥) → left ≡ Nothing
nothing-kept count Nothing keeps none = refl
nothing-kept count (Kept place) keeps none = absurd (none place refl)
nothing-kept count (Dropped place) keeps none = absurd keeps
nothing-kept count (Untold receipt) keeps none = absurd keeps

module _ (o : Opened) (start : List Event) (first : ℕ) (batch : List Update) (order : List ℕ) where
  -- A step that enters nothing.
  record Idles (old new : Seated) : Type 0 where
    pub done : new.work.done ≡ old.work.done
    pub none : untold new.work.left ≡ untold old.work.left
    pub amount : new.amount ≡ old.amount
    pub number : new.number ≡ old.number

  -- what enters nothing leaves the receipts
  same-receipts : (old new : Seated) → Idles old new → receipts_of new.work ≡ receipts_of old.work
  same-receipts old new h = λ i. map (λ done. done.receipt) (h.done i) ++ h.none i

  -- what enters nothing is a step of work
  idles : (old new : Seated) → Idles old new → IsPrefix old.seen.log new.seen.log → Legal o.table.shape o.table.opening new.seen.log
      → new.consumer.queue ≡ old.consumer.queue → new.consumer.parts ≡ old.consumer.parts
      → ((y : ℕ) → times y (in_hand first new.work.left) + times y (at_places first (at_turns order old.consumer.taken))
      ≡ times y (in_hand first old.work.left) + times y (at_places first (at_turns order new.consumer.taken)))
      → Works o start first batch order old new
  idles old new h pre legal queue parts balance = record {
    longer = pre;
    legal = legal;
    queue = queue;
    parts = parts;
    number = h.number;
    more = [];
    done = h.done ∙ sym (append-nil old.work.done);
    misses = All-nil (HasTrueMisses o start new.seen.log);
    added = [];
    receipts = same-receipts old new h ∙ sym (append-nil (receipts_of old.work));
    told = All-nil (IsReceiptIn o start new.seen.log first batch);
    amount = omega (arith, h.amount);
    balance = λ y. omega (arith, balance y, ap (λ (rs : List Receipt). times y (told_indices rs)) (same-receipts old new h));
  }

  -- A step that takes nothing of the queue and enters the update that was kept at this place.
  record Enters (old new : Seated) (place : ℕ) (receipt : Receipt) (more : List Done) : Type 0 where
    pub kept : old.work.left ≡ Kept place
    pub index : receipt.index ≡ first + place
    pub done : new.work.done ≡ old.work.done ++ more
    pub receipts : map (λ d. d.receipt) more ++ untold new.work.left ≡ receipt ∷ []
    pub empty : in_hand first new.work.left ≡ []
    pub amount : new.amount ≡ old.amount + 1
    pub number : new.number ≡ old.number
    pub consumer : new.consumer ≡ old.consumer

  -- what enters an update has one receipt more
  one-more : (old new : Seated) (place : ℕ) (receipt : Receipt) (more : List Done) → Enters old new place receipt more
      → receipts_of new.work ≡ receipts_of old.work ++ receipt ∷ []
  one-more old new place receipt more h =
      let f = λ (d : Done). d.receipt in
      ap (λ (ds : List Done). map f ds ++ untold new.work.left) h.done
      ∙ (ap (λ (rs : List Receipt). rs ++ untold new.work.left) (map-append f old.work.done more)
      ∙ (append_assoc (map f old.work.done) (map f more) (untold new.work.left)
      ∙ (ap (λ (rs : List Receipt). map f old.work.done ++ rs) h.receipts
      ∙ ap (λ (rs : List Receipt). rs ++ receipt ∷ [])
      (sym (append-nil (map f old.work.done)) ∙ ap (λ (l : Left). map f old.work.done ++ untold l) (sym h.kept)))))

  -- what enters an update is a step of work
  enters : (old new : Seated) (place : ℕ) (receipt : Receipt) (more : List Done) → Enters old new place receipt more
      → IsPrefix old.seen.log new.seen.log → Legal o.table.shape o.table.opening new.seen.log
      → IsReceiptIn o start new.seen.log first batch receipt → All (HasTrueMisses o start new.seen.log) more → Works o start first batch order old new
  enters old new place receipt more h pre legal told misses = record {
    longer = pre;
    legal = legal;
    queue = ap (λ (c : Consuming). c.queue) h.consumer;
    parts = ap (λ (c : Consuming). c.parts) h.consumer;
    number = h.number;
    more = more;
    done = h.done;
    misses = misses;
    added = receipt ∷ [];
    receipts = one-more old new place receipt more h;
    told = All-cons (IsReceiptIn o start new.seen.log first batch) receipt [] told (All-nil (IsReceiptIn o start new.seen.log first batch));
    amount = h.amount;
    balance = λ y. omega (
      arith,
      ap (λ (rs : List Receipt). times y (told_indices rs)) (one-more old new place receipt more h),
      told-append y (receipts_of old.work) (receipt ∷ []),
      ap (λ (n : ℕ). times y (n ∷ [])) h.index,
      ap (λ (l : Left). times y (in_hand first l)) h.kept,
      ap (times y) h.empty,
      ap (λ (c : Consuming). times y (at_places first (at_turns order c.taken))) h.consumer,
    );
  }

  -- What was kept stays kept.
  pub picks-kept : (s : Seated) → Legal o.table.shape o.table.opening s.seen.log → Works o start first batch order s s
  picks-kept s legal =
      idles s s (record { done = refl; none = refl; amount = refl; number = refl }) (prefix_self s.seen.log) legal refl refl (λ y. refl)

  -- None was left in the queue.
  pub picks-none : (s : Seated) (consumer : Consuming) → consumer ≡ s.consumer → Legal o.table.shape o.table.opening s.seen.log
      → Works o start first batch order s (record s { consumer = consumer })
  picks-none s consumer is legal =
      idles s _ (record { done = refl; none = refl; amount = refl; number = refl }) (prefix_self s.seen.log) legal
      (ap (λ (c : Consuming). c.queue) is) (ap (λ (c : Consuming). c.parts) is)
      (λ y. ap (λ (c : Consuming). times y (in_hand first s.work.left) + times y (at_places first (at_turns order c.taken))) (sym is))

  -- The next place is kept.
  pub picks-next : (s : Seated) (place : ℕ) (consumer : Consuming) → s.work.left ≡ Nothing → Legal o.table.shape o.table.opening s.seen.log
      → (consumer.queue ≡ s.consumer.queue) × (consumer.parts ≡ s.consumer.parts)
      → at_turns order consumer.taken ≡ at_turns order s.consumer.taken ++ place ∷ []
      → Works o start first batch order s (record s { work = record { done = s.work.done; left = Kept place }; consumer = consumer })
  picks-next s place consumer none legal same is =
      idles s _ (record { done = refl; none = ap untold (sym none); amount = refl; number = refl }) (prefix_self s.seen.log) legal same.0 same.1
      (λ y. omega (
        arith,
        ap (λ (l : Left). times y (in_hand first l)) none,
        ap (λ (ps : List ℕ). times y (at_places first ps)) is,
        ap (times y) (map-append (λ (p : ℕ). first + p) (at_turns order s.consumer.taken) (place ∷ [])),
        times-append y (at_places first (at_turns order s.consumer.taken)) ((first + place) ∷ []),
      ))

  -- The update is kept still, or is dropped.
  pub seat-keeps : (s : Seated) (place amount : ℕ) (seen : Seen) → amount ≡ s.amount → IsPrefix s.seen.log seen.log
      → Legal o.table.shape o.table.opening seen.log
      → Works o start first batch order s (record s { seen = seen; amount = amount })
  seat-keeps s place amount seen same pre legal =
      idles s _ (record { done = refl; none = refl; amount = same; number = refl }) pre legal refl refl (λ y. refl)

  -- to drop the update that is kept is a step of work
  pub seat-drops : (s : Seated) (place amount : ℕ) (seen : Seen) → s.work.left ≡ Kept place → amount ≡ s.amount → IsPrefix s.seen.log seen.log
      → Legal o.table.shape o.table.opening seen.log
      → Works o start first batch order s (record s { seen = seen; amount = amount; work = record { done = s.work.done; left = Dropped place } })
  seat-drops s place amount seen kept same pre legal =
      idles s _ (record { done = refl; none = ap untold (sym kept); amount = same; number = refl }) pre legal refl refl
      (λ y. omega (arith, ap (λ (l : Left). times y (in_hand first l)) kept))

  -- The update is entered.
  pub seat-finishes : (s : Seated) (place amount : ℕ) (seen : Seen) (update : Update) (done : Done) → s.work.left ≡ Kept place → amount ≡ s.amount + 1
      → IsPrefix start s.seen.log → IsPrefix s.seen.log seen.log → Legal o.table.shape o.table.opening seen.log
      → IsUpdateAt first batch (first + place) update → IsUpdateDone o s.seen.log seen.log (first + place) update done
      → Works o start first batch order s
      (record s { seen = seen; amount = amount; work = record { done = s.work.done ++ done ∷ []; left = Nothing } })
  seat-finishes s place amount seen update done kept more told pre legal at h =
      enters s _ place done.receipt (done ∷ [])
      (record {
        kept = kept;
        index = h.receipt.index_is;
        done = refl;
        receipts = refl;
        empty = refl;
        amount = more;
        number = refl;
        consumer = refl;
      })
      pre legal (receipt_in o start s.seen.log seen.log first batch (first + place) update done.receipt told at h.receipt)
      (All-cons (HasTrueMisses o start seen.log) done []
      (misses-stay o start s.seen.log seen.log seen.log done legal told pre (prefix_self seen.log) (h.few, h.misses))
      (All-nil (HasTrueMisses o start seen.log)))

  -- It is entered, and then memory runs out.
  pub leaves-untold : (s : Seated) (place amount : ℕ) (seen : Seen) (update : Update) (receipt : Receipt) → s.work.left ≡ Kept place
      → amount ≡ s.amount + 1 → IsPrefix start s.seen.log → IsPrefix s.seen.log seen.log → Legal o.table.shape o.table.opening seen.log
      → IsUpdateAt first batch (first + place) update → IsReceipt o s.seen.log seen.log (first + place) update receipt
      → Works o start first batch order s (record s { seen = seen; amount = amount; work = record { done = s.work.done; left = Untold receipt } })
  leaves-untold s place amount seen update receipt kept more told pre legal at h =
      enters s _ place receipt []
      (record {
        kept = kept;
        index = h.index_is;
        done = sym (append-nil s.work.done);
        receipts = refl;
        empty = refl;
        amount = more;
        number = refl;
        consumer = refl;
      })
      pre legal (receipt_in o start s.seen.log seen.log first batch (first + place) update receipt told at h) (All-nil (HasTrueMisses o start seen.log))

  -- So it is whatever became of the update.
  pub seat-tries : (s : Seated) (place amount : ℕ) (seen : Seen) (update : Update) (outcome : Result Done SharedFault) → s.work.left ≡ Kept place
      → IsPrefix start s.seen.log → IsPrefix s.seen.log seen.log → Legal o.table.shape o.table.opening seen.log
      → IsUpdateAt first batch (first + place) update
      → IfOk outcome (λ done. IsUpdateDone o s.seen.log seen.log (first + place) update done)
      → IfErr outcome (λ fault. HasUpdateCause o s.seen.log seen.log (first + place) update fault)
      → MatchResult outcome (λ done. amount ≡ s.amount + 1) (λ fault. amount ≡ s.amount + entered_at fault)
      → Works o start first batch order s (record s { seen = seen; amount = amount; work = noted place outcome s.work })
  seat-tries s place amount seen update (Ok one) kept told pre legal at done cause more =
      seat-finishes s place amount seen update one kept more told pre legal at done
  seat-tries s place amount seen update (Err (fault.Enter (enter.Full entries))) kept told pre legal at done cause more =
      seat-keeps s place amount seen (omega arith) pre legal
  seat-tries s place amount seen update (Err (fault.Enter (enter.Stale vertex edges used now))) kept told pre legal at done cause more =
      absurd cause
  seat-tries s place amount seen update (Err (fault.Enter (enter.Spent highest needed))) kept told pre legal at done cause more =
      seat-keeps s place amount seen (omega arith) pre legal
  seat-tries s place amount seen update (Err (fault.Enter enter.NoMemory)) kept told pre legal at done cause more =
      seat-drops s place amount seen kept (omega arith) pre legal
  seat-tries s place amount seen update (Err (fault.Untold receipt)) kept told pre legal at done cause more =
      leaves-untold s place amount seen update receipt kept more told pre legal at cause

  -- One step after the other.
  pub works-trans : (a b c : Seated) → IsPrefix start a.seen.log → Works o start first batch order a b → Works o start first batch order b c
      → Works o start first batch order a c
  works-trans a b c told h k =
      let later = λ (d : Done) (m : HasTrueMisses o start b.seen.log d).
      misses-stay o start start b.seen.log c.seen.log d k.legal (prefix_self start) (prefix_trans start a.seen.log b.seen.log told h.longer) k.longer m in
      record {
        longer = prefix_trans a.seen.log b.seen.log c.seen.log h.longer k.longer;
        legal = k.legal;
        queue = k.queue ∙ h.queue;
        parts = k.parts ∙ h.parts;
        number = k.number ∙ h.number;
        more = h.more ++ k.more;
        done = k.done ∙ (ap (λ (z : List Done). z ++ k.more) h.done ∙ append_assoc a.work.done h.more k.more);
        misses = All-append (HasTrueMisses o start c.seen.log) h.more k.more
            (All-weaker (HasTrueMisses o start b.seen.log) (HasTrueMisses o start c.seen.log) later h.more h.misses) k.misses;
        added = h.added ++ k.added;
        receipts = k.receipts ∙ (ap (λ (z : List Receipt). z ++ k.added) h.receipts ∙ append_assoc (receipts_of a.work) h.added k.added);
        told = All-append (IsReceiptIn o start c.seen.log first batch) h.added k.added
            (All-weaker (IsReceiptIn o start b.seen.log first batch) (IsReceiptIn o start c.seen.log first batch)
            (λ r t. receipt_in-grows o start b.seen.log c.seen.log first batch r k.longer t) h.added h.told) k.told;
        amount = omega (arith, h.amount, k.amount, length-append h.added k.added);
        balance = λ y. omega (arith, h.balance y, k.balance y);
      }

-- What became of the update at this place, which was kept: what the worker has seen then, what its part of the ledger counts, and its work.
pub record IsTried (o : Opened) (first : ℕ) (batch : List Update) (s : Seated) (place : ℕ) (seen : Seen) (amount : ℕ) (work : Work) : Type 0 where
  pub update : Update
  pub outcome : Result Done SharedFault
  pub had : List Done
  pub kept : s.work.left ≡ Kept place
  pub is : had ≡ s.work.done
  pub notes : noted place outcome (record { done = had; left = s.work.left }) ≡ work
  pub within : place < length batch
  pub at : update ≡ get_or batch place update
  pub longer : IsPrefix s.seen.log seen.log
  pub legal : Legal o.table.shape o.table.opening seen.log
  pub entered : IfOk outcome (λ done. IsUpdateDone o s.seen.log seen.log (first + place) update done)
  pub cause : IfErr outcome (λ fault. HasUpdateCause o s.seen.log seen.log (first + place) update fault)
  pub counted : MatchResult outcome (λ done. amount ≡ s.amount + 1) (λ fault. amount ≡ s.amount + entered_at fault)

-- so it is noted from the work that the worker had
noted-so : {o : Opened} {first : ℕ} {batch : List Update} {s : Seated} {place : ℕ} {seen : Seen} {amount : ℕ} {work : Work}
    (t : IsTried o first batch s place seen amount work) → noted place t.outcome s.work ≡ work
noted-so {s = s} {place = place} t = ap (λ (z : List Done). noted place t.outcome (record { done = z; left = s.work.left })) (sym t.is) ∙ t.notes

-- where an update is kept after that, versions are spent
spent-so : (o : Opened) (first : ℕ) (w : Work) (place : ℕ) (old new : List Event) (update : Update) (outcome : Result Done SharedFault)
    → IfErr outcome (λ fault. HasUpdateCause o old new (first + place) update fault) → w.left ≡ Kept place
    → KeepsIfSpent o new (noted place outcome w).left
spent-so o first w place old new update (Ok done) cause kept = tt
spent-so o first w place old new update (Err (fault.Enter (enter.Full entries))) cause kept =
    subst (KeepsIfSpent o new) (sym kept) (inr (omega (arith, cause.0, cause.1)))
spent-so o first w place old new update (Err (fault.Enter (enter.Stale vertex edges used now))) cause kept = absurd cause
spent-so o first w place old new update (Err (fault.Enter (enter.Spent highest needed))) cause kept =
    subst (KeepsIfSpent o new) (sym kept) (inl (nearly_spent o.table new highest needed cause))
spent-so o first w place old new update (Err (fault.Enter enter.NoMemory)) cause kept = tt
spent-so o first w place old new update (Err (fault.Untold receipt)) cause kept = tt

-- So it is here.
pub tried-spent : {o : Opened} {first : ℕ} {batch : List Update} {s : Seated} {place : ℕ} {seen : Seen} {amount : ℕ} {work : Work}
    → IsTried o first batch s place seen amount work → KeepsIfSpent o seen.log work.left
tried-spent {o} {first} {batch} {s} {place} {seen} {amount} {work} t =
    subst (λ (z : Work). KeepsIfSpent o seen.log z.left) (noted-so t)
    (spent-so o first s.work place s.seen.log seen.log t.update t.outcome t.cause t.kept)

-- A seat is known by what its desk is.
pub seat-is : {d e : Desked} {amount : ℕ} {consumer : Consuming} {number : ℕ} {now : Seated} → d ≡ e
    → record { seen = e.seen; work = e.work; amount = amount; consumer = consumer; number = number } ≡ now
    → record { seen = d.seen; work = d.work; amount = amount; consumer = consumer; number = number } ≡ now
seat-is {d} {e} {amount} {consumer} {number} {now} desk seat =
    ap (λ (z : Desked). record { seen = z.seen; work = z.work; amount = amount; consumer = consumer; number = number }) desk ∙ seat

-- The same as a step of a worker is seen, which is known as `now` from before.
module _ {o : Opened} {start : List Event} {count : ℕ} {s now : Seated} (same : s ≡ now) (ready : CanGoOn o start count now) where
  -- what the seat has seen is legal
  legal-now : Legal o.table.shape o.table.opening s.seen.log
  legal-now = subst (λ (n : Seated). Legal o.table.shape o.table.opening n.seen.log) (sym same) ready.legal

  -- what the seat has seen goes on from the start
  told-now : IsPrefix start s.seen.log
  told-now = subst (λ (n : Seated). IsPrefix start n.seen.log) (sym same) ready.told

  -- who keeps nothing has nothing left
  pub left-nothing : ((place : ℕ) → s.work.left ≡ Kept place → ⊥) → s.work.left ≡ Nothing
  left-nothing none = nothing-kept count s.work.left (subst (λ (n : Seated). KeepsOneOf count n.work.left) (sym same) ready.keeps) none

  -- to take nothing is a step of work
  pub picked-none : {first : ℕ} {batch : List Update} {order : List ℕ} {consumer : Consuming} → consumer ≡ s.consumer
      → Works o start first batch order now (record s { consumer = consumer })
  picked-none {first} {batch} {order} {consumer} is =
      subst (λ (n : Seated). Works o start first batch order n (record s { consumer = consumer })) same
      (picks-none o start first batch order s consumer is legal-now)

  -- to take the next turn is a step of work
  pub picked-next : {first : ℕ} {batch : List Update} {order : List ℕ} {place : ℕ} {consumer : Consuming} → s.work.left ≡ Nothing
      → (consumer.queue ≡ s.consumer.queue) × (consumer.parts ≡ s.consumer.parts)
      → at_turns order consumer.taken ≡ at_turns order s.consumer.taken ++ place ∷ []
      → Works o start first batch order now (record s { work = record { done = s.work.done; left = Kept place }; consumer = consumer })
  picked-next {first} {batch} {order} {place} {consumer} none as-before is =
      subst (λ (n : Seated). Works o start first batch order n (record s { work = record { done = s.work.done; left = Kept place }; consumer = consumer }))
      same (picks-next o start first batch order s place consumer none legal-now as-before is)

  -- to drop the update that is kept is a step of work
  pub update-dropped : {first : ℕ} {batch : List Update} {order : List ℕ} {place : ℕ} {had : List Done} → now.work.left ≡ Kept place → had ≡ s.work.done
      → Works o start first batch order now (record s { work = record { done = had; left = Dropped place } })
  update-dropped {first} {batch} {order} {place} {had} kept is =
      subst (λ (n : Seated). Works o start first batch order n (record s { work = record { done = had; left = Dropped place } })) same
      (subst (λ (z : List Done). Works o start first batch order s (record s { work = record { done = z; left = Dropped place } })) (sym is)
      (seat-drops o start first batch order s place s.amount s.seen (ap (λ (n : Seated). n.work.left) same ∙ kept) refl (prefix_self s.seen.log) legal-now))

  -- to try the update that is kept is a step of work
  pub update-tried : {first : ℕ} {batch : List Update} {order : List ℕ} {place : ℕ} {seen : Seen} {amount : ℕ} {work : Work}
      → IsTried o first batch s place seen amount work
      → Works o start first batch order now (record s { seen = seen; amount = amount; work = work })
  update-tried {first} {batch} {order} {place} {seen} {amount} {work} t =
      subst (λ (n : Seated). Works o start first batch order n (record s { seen = seen; amount = amount; work = work })) same
      (subst (λ (z : Work). Works o start first batch order s (record s { seen = seen; amount = amount; work = z })) (noted-so t)
      (seat-tries o start first batch order s place amount seen t.update t.outcome t.kept told-now t.longer t.legal
      (update_at first batch place t.update t.within t.at) t.entered t.cause t.counted))
