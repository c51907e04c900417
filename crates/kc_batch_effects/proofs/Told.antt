-- What is told of the updates of a batch, one by one under their indices, counts to what the batch did.
use Rattle.std.proofs.Common.{◌≡◌, ◌-◌, ℕ, Bool, false, not, ◌&&◌, List, ◌++◌, length, get_or, map, sym, ◌∙◌, ap, ap₂, subst}
use Rattle.std.specs.Prelude.{All, count_by}
use Rattle.std.specs.List.{AllByRecursion}
use Rattle.std.specs.FinSet.{FinSet}
use Rattle.std.proofs.lemmas.List.{length-map}
use Rattle.std.proofs.lemmas.List.Elements.{All-weaker, recursion_from_All}
use Rattle.kc_lists.specs.Lists.{Distinct}
use Rattle.kc_graph.specs.SimpleGraph.{SimpleGraph, pair_cmp}
use Rattle.kc_graph.specs.declared.update.Update.{Update}
use Rattle.kc_table.specs.declared.entry.Entry.{Entry}
use Rattle.kc_table.specs.Edges.{after_entries}
use Rattle.kc_text.specs.Inputs.{EdgeUpdate, IsBatch, parts_of}
use Rattle.kc_batch_effects.specs.Batches.{added, is_add, is_effective, kept, removed}
use Rattle.kc_batch_effects.specs.Entered.{AreSomeOf, IsIndexOf, IsOneOf, IsUpdateAt}
use Rattle.kc_batch_effects.specs.Outcomes.{AreOutcomesOf, IsOutcomeIn, IsOutcomeOf, adds_at, told_added, outcome_indices, told_kept, told_removed}
use Rattle.kc_batch_effects.specs.declared.outcome.Outcome.{Outcome}
use Rattle.kc_batch_effects.proofs.InAnyOrder.{cut-behind, does-what-it-would, names-of-row}
use Rattle.kc_batch_effects.proofs.OneByOne.{at-cut, index-within, made-at, no_update}
use Rattle.kc_batch_effects.proofs.Rows.{AreOfRow, as-many-are-all, count-each, count-map, count-places, count-row, row}

-- what the update of an index says
abbrev part_at : ℕ → List Update → ℕ → EdgeUpdate
part_at first batch index = get_or (map parts_of batch) (index - first) no_update

-- the indices of outcomes of a batch are in its row
pub told-of-row : (edges : FinSet pair_cmp) (first : ℕ) (batch : List Update) (outcomes : List Outcome) → All (IsOutcomeOf edges first batch) outcomes
    → AreOfRow first (length batch) (outcome_indices outcomes)
told-of-row edges first batch outcomes each =
    let within : All (λ (o : Outcome). IsIndexOf first batch o.index) outcomes =
    All-weaker (IsOutcomeOf edges first batch) (λ o. IsIndexOf first batch o.index) (λ o of-o. index-within first batch o.index of-o.0 of-o.1) outcomes each in
    names-of-row (λ (o : Outcome). o.index) first batch outcomes (recursion_from_All (λ o. IsIndexOf first batch o.index) outcomes within)

module _ (edges : FinSet pair_cmp) (first : ℕ) (batch : List Update) (outcomes : List Outcome) (are : AreOutcomesOf edges first batch outcomes) where
  -- a test of outcomes that goes by the update of their index counts what the batch has of it
  count-told : (p : Outcome → Bool) (t : EdgeUpdate → Bool) → ((o : Outcome) → IsOutcomeOf edges first batch o → p o ≡ t (part_at first batch o.index))
      → count_by p outcomes ≡ count_by t (map parts_of batch)
  count-told p t agree =
      let q : ℕ → Bool = λ index. t (part_at first batch index) in
      count-each (IsOutcomeOf edges first batch) p (λ o. q o.index) agree outcomes (recursion_from_All (IsOutcomeOf edges first batch) outcomes are.each)
      ∙ (sym (count-map q (λ (o : Outcome). o.index) outcomes)
      ∙ (count-row q first (length batch) (outcome_indices outcomes) are.once (told-of-row edges first batch outcomes are.each) are.all
      ∙ (ap (λ (n : ℕ). count_by q (row first n)) (sym (length-map batch parts_of))
      ∙ sym (count-places t no_update first (map parts_of batch)))))

  -- an outcome's update, by its index
  part-is : (o : Outcome) → (of : IsOutcomeOf edges first batch o) → part_at first batch o.index ≡ parts_of of.0
  part-is o of = made-at first batch parts_of no_update o.index of.0 of.1

  -- an outcome was applied just where its part is effective
  applied-is : (o : Outcome) → IsOutcomeOf edges first batch o → o.applied ≡ is_effective edges (part_at first batch o.index)
  applied-is o of = of.2 ∙ ap (is_effective edges) (sym (part-is o of))

  -- an outcome adds just where its part does
  adds-is : (o : Outcome) → IsOutcomeOf edges first batch o → adds_at first batch o.index ≡ is_add (part_at first batch o.index)
  adds-is o of = made-at first batch (λ (u : Update). u.add) false o.index of.0 of.1 ∙ ap is_add (sym (part-is o of))

  -- the edges told as added are those that the batch adds
  pub tells-added : told_added first batch outcomes ≡ added edges (map parts_of batch)
  tells-added = count-told (λ o. adds_at first batch o.index && o.applied) (λ x. is_add x && is_effective edges x)
      (λ o of. ap₂ (λ (a b : Bool). a && b) (adds-is o of) (applied-is o of))

  -- the edges told as removed are those that the batch removes
  pub tells-removed : told_removed first batch outcomes ≡ removed edges (map parts_of batch)
  tells-removed = count-told (λ o. not (adds_at first batch o.index) && o.applied) (λ x. not (is_add x) && is_effective edges x)
      (λ o of. ap₂ (λ (a b : Bool). not a && b) (adds-is o of) (applied-is o of))

  -- the edges told as kept are those that the batch keeps
  pub tells-kept : told_kept outcomes ≡ kept edges (map parts_of batch)
  tells-kept = count-told (λ o. not o.applied) (λ x. not (is_effective edges x)) (λ o of. ap not (applied-is o of))

-- what is told of an entry of the batch is what becomes of its update
outcome-of : (started : SimpleGraph) (before made : List Entry) (vertices first : ℕ) (batch : List Update) → IsBatch vertices batch
    → AreSomeOf first batch made → (o : Outcome) → IsOutcomeIn started (before ++ made) (length before) o
    → IsOutcomeOf (after_entries started before).edges first batch o
outcome-of started before made vertices first batch is_batch some o told =
    let r = cut-behind before made told.front told.entry told.back told.is told.later in
    let of : IsOneOf first batch told.entry = at-cut (IsOneOf first batch) r.0 told.entry told.back
    (subst (AllByRecursion (IsOneOf first batch)) r.2 (recursion_from_All (IsOneOf first batch) made some.each)) in
    let does = does-what-it-would started before made told.front told.back told.entry vertices first batch is_batch some told.is told.later in (
      of.0,
      subst (λ (k : ℕ). IsUpdateAt first batch k of.0) (sym told.index_is) of.1,
      told.applied ∙ (does ∙ ap (is_effective (after_entries started before).edges) of.2),
    )

-- so what is told of different entries, as many as the batch has, is what became of it
pub outcomes-of : (started : SimpleGraph) (before made : List Entry) (vertices first : ℕ) (batch : List Update) (outcomes : List Outcome)
    → IsBatch vertices batch → AreSomeOf first batch made
    → All (IsOutcomeIn started (before ++ made) (length before)) outcomes → Distinct (outcome_indices outcomes)
    → length outcomes ≡ length batch → AreOutcomesOf (after_entries started before).edges first batch outcomes
outcomes-of started before made vertices first batch outcomes is_batch some told once many =
    let edges = (after_entries started before).edges in
    let each : All (IsOutcomeOf edges first batch) outcomes = All-weaker (IsOutcomeIn started (before ++ made) (length before)) (IsOutcomeOf edges first batch)
    (outcome-of started before made vertices first batch is_batch some) outcomes told in
    record {
      each = each;
      once = once;
      all = as-many-are-all first (length batch) (outcome_indices outcomes) once (told-of-row edges first batch outcomes each)
          (length-map outcomes (λ (o : Outcome). o.index) ∙ many);
    }
