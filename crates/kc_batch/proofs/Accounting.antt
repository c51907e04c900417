-- What holds of the work between two rounds, and what it comes to at the end.
use Rattle.std.proofs.Common.{◌≡◌, ◌⊎◌, inl, inr, ⊎_elim, ℕ, ◌+◌, ◌<◌, ◌≤◌, true, List, [], ◌∷◌, ◌++◌, All, Contains, length, sum_by, refl, sym, ap}
use Rattle.std.proofs.Common.{◌∙◌, subst, arith, length-append}
use Rattle.std.proofs.lemmas.Bool.{false_from_ne_true, false≢true}
use Rattle.std.proofs.lemmas.List.{length-map}
use Rattle.std.proofs.lemmas.List.Elements.{All-contains, All-head, All-tail, All-weaker}
use Rattle.std.proofs.lemmas.List.Sums.{sum_by-cons}
use Rattle.kc_lists.specs.Lists.{Distinct, member, times}
use Rattle.kc_lists.proofs.Counting.{distinct_times, member_times, times_distinct, times_member}
use Rattle.kc_lists.proofs.Members.{member-cases, member-head, member-tail}
use Rattle.kc_graph.specs.SimpleGraph.{SimpleGraph}
use Rattle.kc_graph.specs.declared.update.Update.{Update}
use Rattle.kc_table.specs.declared.entry.Entry.{Entry}
use Rattle.kc_table.specs.Legal.{Legal}
use Rattle.kc_table.specs.Log.{PassSeen}
use Rattle.kc_table.proofs.Prefixes.{prefix_self}
use Rattle.kc_journal.specs.Journals.{Journalled, Stands}
use Rattle.kc_journal.specs.declared.answer.Receipt.{Receipt}
use Rattle.kc_queue.specs.Shares.{AreAllBelow}
use Rattle.kc_table.specs.Log.{Opened}
use Rattle.kc_shared.specs.States.{opened_by}
use Rattle.kc_shared.specs.declared.shared.TheConstants.{MISSES}
use Rattle.kc_workers.specs.declared.done.Done.{Done}
use Rattle.kc_batch.specs.Batches.{Account, WentOnBy}
use Rattle.kc_batch.specs.Desks.{Work, all_done, all_receipts, at_places, in_hand, receipts_of, times_had}
use Rattle.kc_batch.specs.Receipts.{AreBatchReceipts, AreReceiptsOf, IsReceiptOf, told_indices}
use Rattle.kc_batch.specs.Runs.{IsRenewal, StaysIn, WentOn}
use Rattle.kc_batch.specs.Seats.{HasTrueMisses, IsReceiptIn, Rounds}
use Rattle.kc_batch.specs.declared.left.Left.{Left}
use Rattle.kc_batch.specs.declared.left.Left.TheVariants.{Nothing}
use Rattle.kc_batch.proofs.Counting.{each-told, some_of}
use Rattle.kc_batch.proofs.Going.{went-entries, went-renewed, went-stays}
use Rattle.kc_batch.proofs.Pacing.{pace-few, pace-renewed, pace-round}
use Rattle.kc_batch.proofs.Telling.{receipt_of, receipt_of-earlier, receipt_of-grows}
use Rattle.kc_batch.proofs.Turning.{distinct_within-fewer, whole-length}
use Rattle.kc_batch.proofs.Working.{misses-stay, told-append}

-- the opened table of a journal that stays in it
opened-same : (a b : Journalled) → StaysIn a b → opened_by b ≡ opened_by a
opened-same a b h = λ i. record { table = h.table i; edges = h.opened i; stamps = h.opening_stamps i }

-- a round more keeps the account of a call
pub account-round : (old now next : Journalled) (first : ℕ) (batch : List Update) (ended : List PassSeen) (works after : List Work)
    (taken more : List ℕ) (made : ℕ) (o : Opened)
    → Account old now first batch ended works taken → Stands now → Stands next → StaysIn now next → o ≡ opened_by next
    → length next.entries ≡ length now.entries + made → (length next.entries ≡ length now.entries → next.levels.log ≡ now.levels.log)
    → Rounds o now.levels.log next.levels.log first batch works after taken more made → Account old next first batch ended after more
account-round old now next first batch ended works after taken more made o a sn st on is total quiet r =
    let P : Receipt → Type 0 = IsReceiptOf next.started next.entries first batch (length old.entries) in
    let before = went-entries ended old now a.went in
    let early : length old.entries ≤ length now.entries = omega (arith, ap (λ (z : List Entry). length z) before.1.1, length-append old.entries before.1.0) in
    let from_old = λ (x : Receipt) (c : Contains (all_receipts works) x).
    let h = All-contains (IsReceiptOf now.started now.entries first batch (length old.entries)) (all_receipts works) x a.receipts c in
    subst (λ (g : SimpleGraph). IsReceiptOf g next.entries first batch (length old.entries) x) (sym on.started)
    (receipt_of-grows now.started now.entries next.entries first batch (length old.entries) x on.entries h) in
    let from_new = λ (x : Receipt) (h : IsReceiptIn o now.levels.log next.levels.log first batch x).
    receipt_of-earlier next.started next.entries first batch (length now.entries) (length old.entries) x early
    (receipt_of now next sn st on o first batch x (ap (λ (z : Opened). z.table) is) (ap (λ (z : Opened). z.edges) is) h) in
    record {
      went = went-stays ended old now next a.went on;
      receipts = All-weaker (λ x. Contains (all_receipts works) x ⊎ IsReceiptIn o now.levels.log next.levels.log first batch x) P
          (λ x c. ⊎_elim (from_old x) (from_new x) c) (all_receipts after) r.receipts;
      count = omega (arith, a.count, r.count, total);
      balance = λ y. omega (arith, a.balance y, r.balance y);
      few = All-weaker (λ d. Contains (all_done works) d ⊎ HasTrueMisses o now.levels.log next.levels.log d) (λ d. length d.misses.items ≤ MISSES)
          (λ d c. ⊎_elim (λ (t : Contains (all_done works) d). All-contains (λ (e : Done). length e.misses.items ≤ MISSES) (all_done works) d a.few t)
          (λ (n : HasTrueMisses o now.levels.log next.levels.log d). n.0) c) (all_done after) r.done;
      misses = λ none.
          let legal : Legal next.levels.table.shape next.levels.table.opening next.levels.log = st.levels.legal in
          let stays : StaysIn old now = subst (λ (ps : List PassSeen). WentOn old ps now) none a.went in
          let same : opened_by next ≡ opened_by now = opened-same now next on in
          All-weaker (λ d. Contains (all_done works) d ⊎ HasTrueMisses o now.levels.log next.levels.log d)
          (HasTrueMisses (opened_by next) old.levels.log next.levels.log)
          (λ d c. ⊎_elim
          (λ (t : Contains (all_done works) d).
          let h = All-contains (HasTrueMisses (opened_by now) old.levels.log now.levels.log) (all_done works) d (a.misses none) t in
          misses-stay (opened_by next) old.levels.log old.levels.log now.levels.log next.levels.log d legal (prefix_self old.levels.log) stays.log on.log
          (subst (λ (z : Opened). HasTrueMisses z old.levels.log now.levels.log d) (sym same) h))
          (λ (n : HasTrueMisses o now.levels.log next.levels.log d).
          misses-stay (opened_by next) old.levels.log now.levels.log next.levels.log next.levels.log d legal stays.log on.log (prefix_self next.levels.log)
          (subst (λ (z : Opened). HasTrueMisses z now.levels.log next.levels.log d) is n)) c)
          (all_done after) r.done;
      pace = pace-round old now next batch ended made sn on total quiet a.pace;
    }

-- a table more keeps the account of a call, while an update of the batch is left
pub account-renewed : (old now next : Journalled) (first : ℕ) (batch : List Update) (ended : List PassSeen) (last : PassSeen)
    (works : List Work) (taken : List ℕ)
    → Account old now first batch ended works taken → IsRenewal now last now next → length now.entries < length old.entries + length batch
    → Account old next first batch (ended ++ last ∷ []) works taken
account-renewed old now next first batch ended last works taken a r left =
    let same = r.renews.entries in
    record {
      went = went-renewed ended last old now next a.went r;
      receipts =
          subst (λ (g : SimpleGraph). All (IsReceiptOf g next.entries first batch (length old.entries)) (all_receipts works)) (sym r.renews.started)
          (subst (λ (z : List Entry). All (IsReceiptOf now.started z first batch (length old.entries)) (all_receipts works)) (sym same) a.receipts);
      count = omega (arith, a.count, ap (λ (z : List Entry). length z) same);
      balance = a.balance;
      few = a.few;
      misses = λ none. absurd (omega (arith, ap (λ (z : List PassSeen). length z) none, length-append ended (last ∷ [])));
      pace = inr (pace-renewed old now next batch ended last r (omega (arith, a.count)) left a.pace);
    }

-- an index stands no more often among receipts than among what was entered and is in hand
pub told-le : (first y : ℕ) (works : List Work) → times y (told_indices (all_receipts works)) ≤ sum_by (times_had first y) works
told-le first y [] = omega arith
told-le first y (w ∷ ws) = omega (arith, told-le first y ws, told-append y (receipts_of w) (all_receipts ws), sum_by-cons (times_had first y) w ws)

-- where nothing is in hand, an index stands as often among receipts as among what was entered and is in hand
told-all : (first y : ℕ) (works : List Work) → All (λ w. w.left ≡ Nothing) works
    → sum_by (times_had first y) works ≡ times y (told_indices (all_receipts works))
told-all first y [] none = refl
told-all first y (w ∷ ws) none =
    omega (
      arith,
      told-all first y ws (All-tail (λ (u : Work). u.left ≡ Nothing) w ws none),
      told-append y (receipts_of w) (all_receipts ws),
      sum_by-cons (times_had first y) w ws,
      ap (λ (l : Left). times y (in_hand first l)) (All-head (λ (u : Work). u.left ≡ Nothing) w ws none),
    )

-- the index of a place that was taken is one of the indices
placed-member : (first x : ℕ) (xs : List ℕ) → member x xs ≡ true → member (first + x) (at_places first xs) ≡ true
placed-member first x [] m = m
placed-member first x (y ∷ ys) m = elim (member-cases x y ys m) [
  | inl e ↦ subst (λ (z : ℕ). member (first + z) (at_places first (y ∷ ys)) ≡ true) (sym e) (member-head (first + y) (at_places first ys))
  | inr k ↦ member-tail (first + x) (first + y) (at_places first ys) (placed-member first x ys k)
]

-- a place whose index is one of those of taken places was taken
pub member-placed : (first x : ℕ) (xs : List ℕ) → member (first + x) (at_places first xs) ≡ true → member x xs ≡ true
member-placed first x [] m = m
member-placed first x (y ∷ ys) m = elim (member-cases (first + x) (first + y) (at_places first ys) m) [
  | inl e ↦ subst (λ (z : ℕ). member x (z ∷ ys) ≡ true) (alike e) (member-head x ys)
  | inr k ↦ member-tail x y ys (member-placed first x ys k)
]
  where
    alike : first + x ≡ first + y → x ≡ y
    alike e = omega arith

-- distinct places have distinct indices
pub distinct-placed : (first : ℕ) (xs : List ℕ) → Distinct xs → Distinct (at_places first xs)
distinct-placed first [] d = tt
distinct-placed first (x ∷ xs) d =
    (false_from_ne_true (member (first + x) (at_places first xs)) (λ m. false≢true (sym d.0 ∙ member-placed first x xs m)), distinct-placed first xs d.1)

-- where the places that were taken are distinct, no index has two receipts
pub told-once : (old now : Journalled) (first : ℕ) (batch : List Update) (ended : List PassSeen) (works : List Work) (taken : List ℕ)
    → Account old now first batch ended works taken → Distinct taken → Distinct (told_indices (all_receipts works))
told-once old now first batch ended works taken a d =
    distinct_times (told_indices (all_receipts works))
    (λ y. omega (arith, told-le first y works, a.balance y, times_distinct y (at_places first taken) (distinct-placed first taken d)))

-- What was made is some of the batch, and each of it has one receipt.
pub record Made (old now : Journalled) (first : ℕ) (batch : List Update) (ended : List PassSeen) (works : List Work) : Type 0 where
  pub made : List Entry
  pub went : WentOnBy old now first batch ended made
  pub as_many : length made ≡ length (all_receipts works)
  pub told : AreReceiptsOf now.started now.entries first batch (length old.entries) made (all_receipts works)

-- an account with distinct places comes to some of the batch, each made at most once
pub made_so : (old now : Journalled) (first : ℕ) (batch : List Update) (ended : List PassSeen) (works : List Work) (taken : List ℕ)
    → Account old now first batch ended works taken → Distinct taken → Made old now first batch ended works
made_so old now first batch ended works taken a d =
    let pre = (went-entries ended old now a.went).1 in
    let rs = all_receipts works in
    let as_many : length rs ≡ length pre.0 = omega (arith, a.count, ap (λ (z : List Entry). length z) pre.1, length-append old.entries pre.0) in
    let each : All (IsReceiptOf now.started (old.entries ++ pre.0) first batch (length old.entries)) rs =
    subst (λ (z : List Entry). All (IsReceiptOf now.started z first batch (length old.entries)) rs) (sym pre.1) a.receipts in
    let once : Distinct (told_indices rs) = told-once old now first batch ended works taken a d in
    record {
      made = pre.0;
      went = record {
        went = a.went;
        entries = sym pre.1;
        some = some_of now.started old.entries pre.0 first batch rs each once as_many;
        few_tables = pace-few old now batch ended a.pace;
      };
      as_many = sym as_many;
      told = subst (λ (z : List Entry). AreReceiptsOf now.started z first batch (length old.entries) pre.0 rs) pre.1
          (each-told now.started old.entries pre.0 first batch rs each once as_many);
    }

-- Where nothing is in hand and all was taken, all was made.
pub record MadeAll (old now : Journalled) (first : ℕ) (batch : List Update) (works : List Work) : Type 0 where
  pub receipts : AreBatchReceipts now.started now.entries first batch (length old.entries) (all_receipts works)
  pub as_many : length (all_receipts works) ≡ length batch

-- an account of a batch that was taken whole, with nothing in hand, comes to all of it
pub made_all : (old now : Journalled) (first : ℕ) (batch : List Update) (ended : List PassSeen) (works : List Work) (taken : List ℕ)
    → Account old now first batch ended works taken → AreAllBelow (length batch) taken → All (λ w. w.left ≡ Nothing) works → MadeAll old now first batch works
made_all old now first batch ended works taken a whole none =
    let told = told_indices (all_receipts works) in
    let places = at_places first taken in
    let same : (y : ℕ) → times y told ≡ times y places = λ y. sym (told-all first y works none) ∙ a.balance y in
    let once : Distinct told = told-once old now first batch ended works taken a whole.share.once in
    let into : (y : ℕ) → member y told ≡ true → member y places ≡ true =
    λ y m. member_times y places (omega (arith, same y, times_member y told m)) in
    let back : (y : ℕ) → member y places ≡ true → member y told ≡ true =
    λ y m. member_times y told (omega (arith, same y, times_member y places m)) in
    record {
      receipts = record {
        each = a.receipts;
        once = once;
        all = λ place low. back (first + place) (placed-member first place taken (whole.all place low));
      };
      as_many = omega (
        arith,
        length-map (all_receipts works) (λ (r : Receipt). r.index),
        length-map taken (λ (place : ℕ). first + place),
        distinct_within-fewer told places once into,
        distinct_within-fewer places told (distinct-placed first taken whole.share.once) back,
        whole-length (length batch) taken whole,
      );
    }
