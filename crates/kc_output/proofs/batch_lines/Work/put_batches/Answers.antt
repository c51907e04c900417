-- One batch more, whose line and what is shown after it come next.
use Rattle.std.proofs.Common.{◌≡◌, ◌+◌, ◌≤◌, ◌++◌, ℕ, List, [], drop, length, map, take, sym, ap, ap₂, subst, ◌∙◌, arith, append_assoc}
use Rattle.std.proofs.lemmas.List.{drop_all, length-map, take_all}
use Rattle.kc_graph.specs.SimpleGraph.{SimpleGraph}
use Rattle.kc_graph.specs.declared.update.Update.{Update}
use Rattle.kc_text.specs.Inputs.{EdgeBatch, IsBatch, parts_of_batch}
use Rattle.kc_text.specs.declared.batch.Batch.{Batch}
use Rattle.kc_text.specs.declared.limits.TheConstants.{MOST_UPDATES}
use Rattle.kc_batch.specs.Batches.{receipts_in}
use Rattle.kc_run.specs.Courses.{HasWorked}
use Rattle.kc_output.specs.Inputs.{updates_of}
use Rattle.kc_output.specs.Screens.{HasShown}
use Rattle.kc_output.specs.Text.{TellsBatches, line_about, shown_each}
use Rattle.kc_output.proofs.InTurn.{count-more, count-within, holds-next, next-read, one-more}
use Rattle.kc_output.proofs.Telling.{tells-next, tells-none}
use Rattle.kc_output.proofs.batch_lines.Work.put_batches.Goals as goal

pub put_batch-requires-clause-batch : goal.put_batch-requires-clause-batch
put_batch-requires-clause-batch g c =
    let next = next-read _ c.args.input.now.batches.items _ _ c.deref-batch-items.ensures.value c.loop-batch-test.true c.batch-item.is in
    λ _ _. subst (λ n. IsBatch n c.batch-item.result.updates.items) (c.requires.size ∙ sym c.loop-batch.invariant.size)
    (holds-next _ _ _ next (λ (b : Batch). IsBatch (length c.args.input.now.ids.items) b.updates.items) c.requires.sound.batches)

pub put_batch-requires-clause-few : goal.put_batch-requires-clause-few
put_batch-requires-clause-few g c =
    let next = next-read _ c.args.input.now.batches.items _ _ c.deref-batch-items.ensures.value c.loop-batch-test.true c.batch-item.is in
    λ _ _. holds-next _ _ _ next (λ (b : Batch). length b.updates.items ≤ MOST_UPDATES) c.requires.sound.short_batches

pub put_batch-requires-clause-indices : goal.put_batch-requires-clause-indices
put_batch-requires-clause-indices g c =
    let next = next-read _ c.args.input.now.batches.items _ _ c.deref-batch-items.ensures.value c.loop-batch-test.true c.batch-item.is in
    λ _ _. omega (arith, count-within _ _ _ next, c.loop-batch.invariant.entries, c.requires.sound.few_updates)

pub loop-batch-preserved : goal.loop-batch-preserved
loop-batch-preserved g c =
    let batches : List Batch = c.args.input.now.batches.items in
    let i : ℕ = c.loop-batch.batch-index in
    let batch : Batch = c.batch-item.result in
    let next = next-read _ batches i batch c.deref-batch-items.ensures.value c.loop-batch-test.true c.batch-item.is in
    let ids : List ℕ = c.args.input.now.ids.items in
    let core : List ℕ = c.in_ok-course.course.journal.levels.core in
    let line : List ℕ = line_about (c.loop-batch.number + 1) c.loop-batch.course.journal.graph (parts_of_batch batch) core in
    let shown : List ℕ → List ℕ = shown_each c.args.self.now.setting.show ids in
    let text : c.put_shown.new.text.items ≡ c.loop-batch.text.items ++ (line ++ shown core) =
    c.in_ok-screen.ensures.text ∙ ap₂ (λ (t s : List ℕ). t ++ s) c.in_ok-course.ensures.text
    (ap₂ (λ (is cs : List ℕ). shown_each c.args.self.now.setting.show is cs) c.deref.ensures.value c.core_numbers.ensures.core)
    ∙ append_assoc c.loop-batch.text.items line (shown core) in
    let wide : length c.core_numbers.result.now ≡ c.args.course.journal.graph.size =
    ap length c.core_numbers.ensures.core ∙ (c.core_numbers.ensures.seidman.one_each
    ∙ (ap (λ (x : SimpleGraph). x.size) c.in_ok-course.ensures.graph ∙ c.loop-batch.invariant.size)) in
    record {
      counted = omega (arith, c.loop-batch.invariant.counted);
      size = ap (λ (x : SimpleGraph). x.size) c.in_ok-course.ensures.graph ∙ c.loop-batch.invariant.size;
      shown = subst (λ (n : ℕ). HasShown n (c.loop-batch.number + 1 + 1) c.in_ok-screen.screen) wide c.in_ok-screen.ensures.shown;
      started = c.in_ok-course.ensures.started ∙ c.loop-batch.invariant.started;
      entries = c.in_ok-course.ensures.entries
          ∙ (ap (λ (k : ℕ). k + length batch.updates.items) c.loop-batch.invariant.entries ∙ sym (count-more batches i batch next));
      rest = λ after last tells. c.loop-batch.invariant.rest after last
          (tells-next batches i batch next shown
          (c.loop-batch.number + 1) c.loop-batch.course.journal.graph c.in_ok-course.course.journal.graph
          c.loop-batch.course.journal.levels.core core c.loop-batch.text.items c.put_shown.new.text.items after last c.in_ok-course.ensures.graph
          c.core_numbers.ensures.seidman text tells);
      worked = λ h. subst (λ (bs : List (List Update)). HasWorked bs c.put_batch.new.ran.tables.items (receipts_in c.put_batch.new.ran.shares.items)
          c.in_ok-course.course.journal) (sym (one-more batches i batch next))
          (c.in_ok-course.ensures.worked (take i (updates_of batches)) (c.loop-batch.invariant.worked h));
    }

pub returns-clause-text : goal.returns-clause-text
returns-clause-text g c =
    let batches : List Batch = c.args.input.now.batches.items in
    let i : ℕ = c.loop-batch.batch-index in
    let past : length batches ≤ i = omega (arith, c.loop-batch-test.false, ap length c.deref-batch-items.ensures.value) in
    let none : map parts_of_batch (drop i batches) ≡ [] = ap (map parts_of_batch) (drop_all i batches past) in
    let shown : List ℕ → List ℕ = shown_each c.args.self.now.setting.show c.args.input.now.ids.items in
    let core : List ℕ = c.loop-batch.course.journal.levels.core in
    c.loop-batch.invariant.rest c.loop-batch.text.items core
    (subst (λ (bs : List EdgeBatch). TellsBatches shown (c.loop-batch.number + 1) c.loop-batch.course.journal.graph core bs c.loop-batch.text.items
    c.loop-batch.text.items core) (sym none)
    (tells-none shown (c.loop-batch.number + 1) c.loop-batch.course.journal.graph core c.loop-batch.text.items))

pub returns-clause-worked : goal.returns-clause-worked
returns-clause-worked g c = λ h.
    let batches : List Batch = c.args.input.now.batches.items in
    let i : ℕ = c.loop-batch.batch-index in
    let past : length (updates_of batches) ≤ i = omega (
      arith,
      c.loop-batch-test.false,
      ap length c.deref-batch-items.ensures.value,
      length-map batches (λ (batch : Batch). batch.updates.items),
    ) in
    subst (λ (bs : List (List Update)). HasWorked bs c.loop-batch.ran.tables.items (receipts_in c.loop-batch.ran.shares.items)
    c.loop-batch.course.journal) (take_all i (updates_of batches) past) (c.loop-batch.invariant.worked h)
