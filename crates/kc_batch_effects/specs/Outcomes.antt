-- What became of the updates of a batch, told one by one under their indices.
use Rattle.std.specs.Prelude.{◌≡◌, ◌+◌, ◌-◌, ◌<◌, ◌≤◌, ◌&&◌, not, ℕ, Bool, true, false, List, ◌∷◌, ◌++◌, All, count_by, length, map, slice_index_or}
use Rattle.std.specs.FinSet.{FinSet}
use Rattle.kc_lists.specs.Lists.{Distinct, member}
use Rattle.kc_graph.specs.SimpleGraph.{SimpleGraph, pair_cmp}
use Rattle.kc_graph.specs.declared.update.Update.{Update}
use Rattle.kc_table.specs.declared.entry.Entry.{Entry}
use Rattle.kc_table.specs.Edges.{after_entries}
use Rattle.kc_text.specs.Inputs.{parts_of}
use Rattle.kc_agree.specs.Stamps.{changes_graph}
use Rattle.kc_batch_effects.specs.Batches.{is_effective}
use Rattle.kc_batch_effects.specs.Entered.{IsUpdateAt}
use Rattle.kc_batch_effects.specs.declared.outcome.Outcome.{Outcome}

-- whether the update of this index adds its edge, where the first of the batch has the index `first`
abbrev pub adds_at : ℕ → List Update → ℕ → Bool
adds_at first batch index = slice_index_or (map (λ update. update.add) batch) (index - first) false

-- how many outcomes tell that an edge was added
abbrev pub told_added : ℕ → List Update → List Outcome → ℕ
told_added first batch outcomes = count_by (λ o. adds_at first batch o.index && o.applied) outcomes

-- how many outcomes tell that an edge was removed
abbrev pub told_removed : ℕ → List Update → List Outcome → ℕ
told_removed first batch outcomes = count_by (λ o. not (adds_at first batch o.index) && o.applied) outcomes

-- how many outcomes tell that nothing changed
abbrev pub told_kept : List Outcome → ℕ
told_kept outcomes = count_by (λ o. not o.applied) outcomes

-- the indices that outcomes tell of
abbrev pub outcome_indices : List Outcome → List ℕ
outcome_indices outcomes = map (λ o. o.index) outcomes

-- The outcome tells of an update of the batch whether it is effective, where these are the edges before the batch.
abbrev pub IsOutcomeOf : FinSet pair_cmp → ℕ → List Update → Outcome → Type 0
IsOutcomeOf edges first batch o = (update : Update) × IsUpdateAt first batch o.index update × (o.applied ≡ is_effective edges (parts_of update))

-- There is one for each update of the batch, and no other.
pub record AreOutcomesOf (edges : FinSet pair_cmp) (first : ℕ) (batch : List Update) (outcomes : List Outcome) : Type 0 where
  pub each : All (IsOutcomeOf edges first batch) outcomes
  pub once : Distinct (outcome_indices outcomes)
  pub all : (place : ℕ) → place < length batch → member (first + place) (outcome_indices outcomes) ≡ true

-- Behind the first `from` entries of a run stands one of the outcome's index, and the outcome tells whether that entry changed the graph
-- that those before it have made of `started`.
pub record IsOutcomeIn (started : SimpleGraph) (entries : List Entry) (from : ℕ) (o : Outcome) : Type 0 where
  pub front : List Entry
  pub entry : Entry
  pub back : List Entry
  pub is : entries ≡ front ++ entry ∷ back
  pub later : from ≤ length front
  pub index_is : o.index ≡ entry.index
  pub applied : o.applied ≡ changes_graph entry (after_entries started front)
