-- What one batch makes of a course, and what the run has come to at its end.
use Rattle.std.proofs.Common.{◌≡◌, ℕ, true, ◌+◌, ◌≤◌, List, [], ◌∷◌, ◌++◌, All}
use Rattle.std.proofs.Common.{length, map, refl, sym, ap, ap₂, ◌∙◌, subst, arith, length-append}
use Rattle.std.specs.FinSet.{FinSet}
use Rattle.std.proofs.lemmas.List.{length-map}
use Rattle.std.proofs.lemmas.List.Elements.{All-map, All-weaker}
use Rattle.kc_lists.specs.Lists.{Distinct, member}
use Rattle.kc_graph.specs.Lawful.{Ranked}
use Rattle.kc_graph.specs.SimpleGraph.{SimpleGraph, pair_cmp}
use Rattle.kc_graph.specs.declared.update.Update.{Update}
use Rattle.kc_text.specs.Inputs.{IsBatch, parts_of}
use Rattle.kc_table.specs.declared.entry.Entry.{Entry}
use Rattle.kc_table.specs.Edges.{after_entries}
use Rattle.kc_table.specs.Log.{PassSeen, TableName}
use Rattle.kc_agree.specs.Stamps.{changes_graph}
use Rattle.kc_batch_effects.specs.Batches.{added, graph_after_batch, is_effective, kept, removed}
use Rattle.kc_batch_effects.specs.Entered.{IsIndexOf, IsOrderOf}
use Rattle.kc_batch_effects.specs.Outcomes.{AreOutcomesOf, IsOutcomeOf, told_added, told_kept, told_removed}
use Rattle.kc_batch_effects.specs.Outcomes as outcomes
use Rattle.kc_batch_effects.specs.declared.outcome.Outcome.{Outcome}
use Rattle.kc_batch_effects.proofs.OneByOne.{index-within}
use Rattle.kc_batch_effects.proofs.Rows.{fit-row}
use Rattle.kc_batch_effects.proofs.Told.{tells-added, tells-kept, tells-removed, told-of-row}
use Rattle.kc_batch_effects.proofs.InAnyOrder.{does-what-it-would, leaves-its-graph_behind}
use Rattle.kc_journal.specs.Entering.{entry_of}
use Rattle.kc_journal.specs.Journals.{Journalled, OpensRun, Stands, all_seen}
use Rattle.kc_journal.specs.declared.answer.Receipt.{Receipt}
use Rattle.kc_workers.specs.declared.share.WorkerShare.{WorkerShare}
use Rattle.kc_batch.specs.Batches.{IsCutShort, IsBatchDone, receipts_in}
use Rattle.kc_batch.specs.Receipts.{AreBatchReceipts, IsReceiptOf, told_indices}
use Rattle.kc_batch.specs.Runs.{IsRenewal, WentOn}
use Rattle.kc_batch.specs.declared.done.BatchDone.{BatchDone}
use Rattle.kc_batch.specs.declared.done.CutShort.{CutShort}
use Rattle.kc_batch.proofs.Closing.{done-cut}
use Rattle.kc_batch.proofs.Going.{stays-on, stays-self, went-entries}
use Rattle.kc_run.specs.Courses.{Coursed, HasWorked, IsBeginning}
use Rattle.kc_run.specs.Entered.{AreEnteredInTurn, update_count}
use Rattle.kc_run.specs.Outcomes.{outcome_of}
use Rattle.kc_run.specs.Receipts.{HasOneEach}
use Rattle.kc_run.specs.Runs.{HasRun}
use Rattle.kc_run.specs.Tables.{AreTables, entries_of}
use Rattle.kc_run.specs.declared.ran.Ran.{Ran}
use Rattle.kc_run.proofs.Telling.{receipts-append}
use Rattle.kc_run.proofs.Entering.{as-many-entered, one-more}
use Rattle.kc_run.proofs.Receiving.{one-each-more}
use Rattle.kc_run.proofs.Tabling.{entries-follow, tables-follow}

-- a journal that went on over some tables and then over more went on over all of them
went-then : (ps qs : List PassSeen) (a b c : Journalled) → WentOn a ps b → WentOn b qs c → WentOn a (ps ++ qs) c
went-then [] [] a b c h k = stays-on a b c h k
went-then [] (q ∷ qs) a b c h k =
    let r : IsRenewal b q k.0 k.1 = k.2 in
    (k.0, k.1, record { stays = stays-on a b k.0 h r.stays; stands = r.stands; told = r.told; spent = r.spent; renews = r.renews }, k.3)
went-then (p ∷ ps) qs a b c h k = (h.0, h.1, h.2, went-then ps qs h.1 b c h.3 k)

-- What is counted of these outcomes, which are of updates of the batch, is what the batch did by the edges before it.
pub record Counted (before : FinSet pair_cmp) (index : ℕ) (batch : List Update) (outs : List Outcome) : Type 0 where
  pub within : All (λ (o : Outcome). IsIndexOf index batch o.index) outs
  pub few : length outs ≤ length batch
  pub added : told_added index batch outs ≡ added before (map parts_of batch)
  pub removed : told_removed index batch outs ≡ removed before (map parts_of batch)
  pub kept : told_kept outs ≡ kept before (map parts_of batch)

-- A batch that was entered whole under its first index, by two journals that stand.
pub record Worked (old new : Journalled) (index : ℕ) (batch : List Update) (workers : ℕ) (done : BatchDone) : Type 0 where
  pub stood : Stands old
  pub stands : Stands new
  pub is_batch : IsBatch old.graph.size batch
  pub at : index ≡ length old.entries
  pub is_done : IsBatchDone old new (length old.entries) batch workers done

-- So it is where the journal that was handed in is the one that contracts see of the course.
pub batch-worked : {self old : Coursed} {new : Journalled} {batch : List Update} {index workers : ℕ} {done : BatchDone} → self ≡ old → Stands self.journal
    → index ≡ length self.journal.entries → Stands new → IsBatch old.journal.graph.size batch → IsBatchDone self.journal new index batch workers done
    → Worked old.journal new index batch workers done
batch-worked {self} {old} {new} {batch} {index} {workers} {done} same stood entered stands is_batch is_done =
    let at : index ≡ length old.journal.entries = entered ∙ ap (λ (s : Coursed). length s.journal.entries) same in
    record {
      stood = subst (λ (s : Coursed). Stands s.journal) same stood;
      stands = stands;
      is_batch = is_batch;
      at = at;
      is_done = subst (λ (n : ℕ). IsBatchDone old.journal new n batch workers done) at
          (subst (λ (s : Coursed). IsBatchDone s.journal new index batch workers done) same is_done);
    }

-- So it is where memory ran out in the batch.
pub batch-cut : {self old : Coursed} {new : Journalled} {batch : List Update} {index workers : ℕ} {cut : CutShort} → self ≡ old
    → index ≡ length self.journal.entries → workers ≡ self.workers → IsCutShort self.journal new index batch workers cut
    → IsCutShort old.journal new (length old.journal.entries) batch old.workers cut
batch-cut {self} {old} {new} {batch} {index} {workers} {cut} same entered many h =
    subst (λ (s : Coursed). IsCutShort s.journal new (length s.journal.entries) batch s.workers cut) same
    (subst (λ (n : ℕ). IsCutShort self.journal new (length self.journal.entries) batch n cut) many
    (subst (λ (n : ℕ). IsCutShort self.journal new n batch workers cut) entered h))

-- where memory ran out the run started from the same graph
pub cut-start : {old new : Journalled} {first : ℕ} {batch : List Update} {workers : ℕ} {cut : CutShort} → IsCutShort old new first batch workers cut
    → new.started ≡ old.started
cut-start {old} {new} {first} {batch} {workers} {cut} h = (went-entries cut.ended.items old new h.went.went).0

module _ {old new : Journalled} {index : ℕ} {batch : List Update} {workers : ℕ} {done : BatchDone} (w : Worked old new index batch workers done) where
  -- the index of the first update
  abbrev first : ℕ
  first = length old.entries

  -- the entries are an order of the batch
  order : IsOrderOf first batch w.is_done.made
  order = record { some = w.is_done.went.some; as_many = w.is_done.as_many }

  -- the run starts from the same graph
  pub same-start : new.started ≡ old.started
  same-start = (went-entries done.ended.items old new w.is_done.went.went).0

  -- What was entered whole and is not counted is told as a batch that was cut short.
  pub whole-cut : (cut : CutShort) (n : ℕ) → cut.shares.items ≡ done.shares.items → cut.ended.items ≡ done.ended.items → workers ≡ n
      → IsCutShort old new (length old.entries) batch n cut
  whole-cut cut n shares ended many = subst (λ (m : ℕ). IsCutShort old new (length old.entries) batch m cut) many (done-cut cut shares ended w.is_done)

  -- as many entries more as the batch has updates
  pub entries-more : length new.entries ≡ length old.entries + length batch
  entries-more = ap length w.is_done.went.entries ∙ (length-append old.entries w.is_done.made ∙ ap (λ (n : ℕ). length old.entries + n) w.is_done.as_many)

  -- the graph after it is the one that the set of its updates leaves
  pub graph-after : new.graph ≡ graph_after_batch old.graph (map parts_of batch)
  graph-after =
      w.stands.from_start ∙ (ap₂ after_entries same-start w.is_done.went.entries
      ∙ (leaves-its-graph_behind old.started old.entries old.graph.size first batch w.is_done.made w.is_batch order
      ∙ ap (λ (g : SimpleGraph). graph_after_batch g (map parts_of batch)) (sym w.stood.from_start)))

  -- what a receipt tells of its update
  outcome-is : (r : Receipt) → IsReceiptOf new.started new.entries first batch first r → IsOutcomeOf old.graph.edges first batch (outcome_of r)
  outcome-is r h =
      let does = does-what-it-would old.started old.entries w.is_done.made h.front h.back (entry_of r.index h.update) old.graph.size first batch
      w.is_batch order.some (sym w.is_done.went.entries ∙ h.is) h.later in (
        h.update,
        h.of,
        h.applied ∙ (ap (λ (g : SimpleGraph). changes_graph (entry_of r.index h.update) (after_entries g h.front)) same-start
            ∙ (does ∙ ap (λ (g : SimpleGraph). is_effective g.edges (parts_of h.update)) (sym w.stood.from_start))),
      )

  -- the receipts tell what became of the batch
  outcomes-are : AreOutcomesOf old.graph.edges first batch (map outcome_of (receipts_in done.shares.items))
  outcomes-are =
      let rs = receipts_in done.shares.items in
      let told : outcomes.outcome_indices (map outcome_of rs) ≡ told_indices rs = same-indices rs in
      record {
        each = All-map (IsOutcomeOf old.graph.edges first batch) outcome_of rs
            (All-weaker (IsReceiptOf new.started new.entries first batch first) (λ (r : Receipt). IsOutcomeOf old.graph.edges first batch (outcome_of r))
            outcome-is rs w.is_done.receipts.each);
        once = subst Distinct (sym told) w.is_done.receipts.once;
        all = λ place low. subst (λ (xs : List ℕ). member (first + place) xs ≡ true) (sym told) (w.is_done.receipts.all place low);
      }
    where
      same-indices : (rs : List Receipt) → outcomes.outcome_indices (map outcome_of rs) ≡ told_indices rs
      same-indices [] = refl
      same-indices (r ∷ rs) = ap (λ (xs : List ℕ). r.index ∷ xs) (same-indices rs)

  -- there are no more than the batch has updates, each under an index of the batch
  outcomes-few : length (map outcome_of (receipts_in done.shares.items)) ≤ length batch
  outcomes-few =
      let os = map outcome_of (receipts_in done.shares.items) in
      omega (
        arith,
        fit-row first (length batch) (outcomes.outcome_indices os) outcomes-are.once (told-of-row old.graph.edges first batch os outcomes-are.each),
        length-map os (λ (o : Outcome). o.index),
      )

  -- the outcomes are of indices of the batch
  outcomes-within : All (λ (o : Outcome). IsIndexOf first batch o.index) (map outcome_of (receipts_in done.shares.items))
  outcomes-within = All-weaker (IsOutcomeOf old.graph.edges first batch) (λ (o : Outcome). IsIndexOf first batch o.index)
      (λ o of. index-within first batch o.index of.0 of.1) (map outcome_of (receipts_in done.shares.items)) outcomes-are.each

  -- What is counted of outcomes that are told so is what the batch did.
  pub outcomes-counted : {outs told : List Outcome} {shares : List WorkerShare} → outs ≡ told → told ≡ map outcome_of (receipts_in shares)
      → shares ≡ done.shares.items
      → Counted old.graph.edges index batch outs
  outcomes-counted {outs} {told} {shares} same is of =
      let all : map outcome_of (receipts_in done.shares.items) ≡ outs =
      sym (same ∙ (is ∙ ap (λ (ss : List WorkerShare). map outcome_of (receipts_in ss)) of)) in
      subst (Counted old.graph.edges index batch) all
      (subst (λ (n : ℕ). Counted old.graph.edges n batch (map outcome_of (receipts_in done.shares.items))) (sym w.at) (record {
        within = outcomes-within;
        few = outcomes-few;
        added = tells-added old.graph.edges first batch (map outcome_of (receipts_in done.shares.items)) outcomes-are;
        removed = tells-removed old.graph.edges first batch (map outcome_of (receipts_in done.shares.items)) outcomes-are;
        kept = tells-kept old.graph.edges first batch (map outcome_of (receipts_in done.shares.items)) outcomes-are;
      }))

  -- A course that had worked batches has worked one more.
  pub worked-more : (batches : List (List Update)) (tables : List PassSeen) (receipts : List Receipt) → HasWorked batches tables receipts old
      → HasWorked (batches ++ batch ∷ []) (tables ++ done.ended.items) (receipts ++ receipts_in done.shares.items) new
  worked-more batches tables receipts h =
      let made = w.is_done.made in
      let news = receipts_in done.shares.items in
      let is : new.entries ≡ old.entries ++ made = w.is_done.went.entries in
      let start : HasOneEach new.started old.entries first receipts =
      subst (λ (g : SimpleGraph). HasOneEach g old.entries first receipts) (sym same-start) h.receipts_are in
      let all : AreBatchReceipts new.started (old.entries ++ made) first batch first news =
      subst (λ (es : List Entry). AreBatchReceipts new.started es first batch first news) is w.is_done.receipts in
      record {
        begun = h.begun;
        beginning = h.beginning;
        went = went-then tables done.ended.items h.begun old new h.went w.is_done.went.went;
        few_tables = omega (arith, h.few_tables, w.is_done.went.few_tables, entries-more, length-append tables done.ended.items);
        entered = subst (AreEnteredInTurn 0 (batches ++ batch ∷ [])) (sym is) (one-more 0 batches old.entries batch made h.entered
            (subst (λ (n : ℕ). IsOrderOf n batch made) (omega arith) order));
        receipts_are = subst (λ (es : List Entry). HasOneEach new.started es (length es) (receipts ++ news)) (sym is)
            (one-each-more new.started old.entries made first batch receipts news refl w.is_done.as_many start all);
      }

  -- The same of the tables and the shares that were gathered.
  pub worked-further : (batches : List (List Update)) (tables tables' : List PassSeen) (shares shares' : List WorkerShare)
      → tables' ≡ tables ++ done.ended.items → shares' ≡ shares ++ done.shares.items → HasWorked batches tables (receipts_in shares) old
      → HasWorked (batches ++ batch ∷ []) tables' (receipts_in shares') new
  worked-further batches tables tables' shares shares' more_tables more_shares h =
      let receipts : receipts_in shares' ≡ receipts_in shares ++ receipts_in done.shares.items =
      ap receipts_in more_shares ∙ receipts-append shares done.shares.items in
      subst (λ (rs : List Receipt). HasWorked (batches ++ batch ∷ []) tables' rs new) (sym receipts)
      (subst (λ (ps : List PassSeen). HasWorked (batches ++ batch ∷ []) ps (receipts_in shares ++ receipts_in done.shares.items) new) (sym more_tables)
      (worked-more batches tables (receipts_in shares) h))

-- At the end its last table is the journal's.
pub run-ended : (batches : List (List Update)) (tables : List PassSeen) (j : Journalled) (ran : Ran) → Stands j
    → HasWorked batches tables (receipts_in ran.shares.items) j → ran.tables.items ≡ tables ++ all_seen j ∷ [] → HasRun j.started batches ran
run-ended batches tables j ran stands h is =
    let start : h.begun.opened ≡ j.started = h.beginning.opened ∙ sym (went-entries tables h.begun j h.went).0 in
    let entries : j.entries ≡ entries_of (tables ++ all_seen j ∷ []) =
    entries-follow tables [] h.begun j h.went stands (sym h.beginning.base) (h.begun.entries, refl) in
    let all : j.entries ≡ entries_of ran.tables.items = entries ∙ ap entries_of (sym is) in
    let count : length j.entries ≡ update_count batches = as-many-entered 0 batches j.entries h.entered in
    record {
      some = omega (arith, ap length is, length-append tables (all_seen j ∷ []));
      tables = subst (AreTables j.started 0) (sym is)
          (subst (λ (g : SimpleGraph). AreTables g 0 (tables ++ all_seen j ∷ [])) start
          (tables-follow tables h.begun j 0 h.went stands h.beginning.base h.beginning.version));
      few_tables = omega (arith, h.few_tables, count, ap length is, length-append tables (all_seen j ∷ []));
      entries = subst (AreEnteredInTurn 0 batches) all h.entered;
      receipts = subst (λ (es : List Entry). HasOneEach j.started es (update_count batches) (receipts_in ran.shares.items)) all
          (subst (λ (n : ℕ). HasOneEach j.started j.entries n (receipts_in ran.shares.items)) count h.receipts_are);
    }

-- A run begins so: nothing was worked.
none-worked : (j : Journalled) → IsBeginning j → WentOn j [] j → HasWorked [] [] [] j
none-worked j h stays = record {
  begun = j;
  beginning = h;
  went = stays;
  few_tables = omega arith;
  entered = h.entries;
  receipts_are = record {
    each = λ k d low. absurd (omega (arith, low));
    once = tt;
    within = λ k d low. absurd (omega (arith, low));
    all = λ index low. absurd (omega (arith, low, ap length h.entries));
  };
}

-- a journal that opens a run has worked nothing yet
pub opens-worked : (s : Ranked) (words : TableName) (j : Journalled) (pass : PassSeen) → OpensRun s 0 words j pass → HasWorked [] [] [] j
opens-worked s words j pass h = none-worked j (record {
  entries = h.entries;
  base = ap (λ (t : TableName). t.shape.base) h.table ∙ h.base;
  version = ap (λ (t : TableName). t.shape.version) h.table ∙ h.version_is;
  opened = h.opened ∙ sym h.started;
}) (stays-self j)
