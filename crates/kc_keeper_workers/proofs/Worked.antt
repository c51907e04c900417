-- A batch that was entered whole, in whatever order, leaves the graph that its updates make in turn.
use Rattle.std.proofs.Common.{◌≡◌, ◌++◌, ℕ, List, [], ◌∷◌, refl, sym, ap, ap₂, ◌∙◌, subst}
use Rattle.kc_graph.specs.Lawful.{Ranked}
use Rattle.kc_graph.specs.Plans.{updated}
use Rattle.kc_graph.specs.SimpleGraph.{SimpleGraph}
use Rattle.kc_graph.specs.declared.update.Update.{Update}
use Rattle.kc_text.specs.Inputs.{IsBatch}
use Rattle.kc_text.specs.LastUpdates.{last_of_edges}
use Rattle.kc_text.proofs.LastOfEdges.{last-batch}
use Rattle.kc_table.specs.Edges.{after_entries}
use Rattle.kc_table.specs.Log.{PassSeen, TableName}
use Rattle.kc_table.specs.declared.entry.Entry.{Entry}
use Rattle.kc_batch_effects.specs.Entered.{IsOrderOf}
use Rattle.kc_batch_effects.specs.Updates.{after_updates}
use Rattle.kc_batch_effects.proofs.LastUpdates.{last-leave_in_any_order}
use Rattle.kc_journal.specs.Journals.{Journalled, OpensRun, Stands}
use Rattle.kc_batch.specs.Batches.{IsBatchDone}
use Rattle.kc_batch.specs.declared.done.BatchDone.{BatchDone}
use Rattle.kc_batch.proofs.Going.{went-entries}
use Rattle.kc_keeper.specs.Batches.{made_in_turn}
use Rattle.kc_keeper.specs.Causes.{EndsAreWithin}
use Rattle.kc_keeper_workers.specs.Working.{IsWorked}

-- what a run that began with a state has entered of a batch
pub is-worked : {s : Ranked} {words : TableName} {pass : PassSeen} {old new : Journalled} {batch : List Update} {workers : ℕ} {done : BatchDone}
    → OpensRun s 0 words old pass → Stands new → IsBatchDone old new 0 batch workers done → IsWorked s.graph batch new.graph
is-worked {s} {words} {pass} {old} {new} {batch} {workers} {done} opens stands d = record {
  made = d.made;
  order = record { some = d.went.some; as_many = d.as_many };
  graph = stands.from_start ∙ ap₂ after_entries ((went-entries done.ended.items old new d.went.went).0 ∙ opens.started)
      (d.went.entries ∙ ap (λ (es : List Entry). es ++ d.made) opens.entries);
}

-- updates that name each edge once are a batch
pub is-batch : (vertices : ℕ) (updates : List Update) → EndsAreWithin vertices updates → last_of_edges updates ≡ updates → IsBatch vertices updates
is-batch vertices updates within once = subst (IsBatch vertices) once (last-batch vertices updates within)

-- the graph after updates in turn, by both words for it
in-turn : (g : SimpleGraph) (us : List Update) → after_updates g us ≡ made_in_turn g us
in-turn g [] = refl
in-turn g (u ∷ us) = in-turn (updated u g) us

-- Updates that name each edge once, entered in some order, leave the graph that they make in turn.
pub worked-in_turn : {g new : SimpleGraph} (updates : List Update) → EndsAreWithin g.size updates → last_of_edges updates ≡ updates
    → IsWorked g updates new → new ≡ made_in_turn g updates
worked-in_turn {g} {new} updates within once w =
    w.graph
    ∙ (last-leave_in_any_order g g.size 0 updates w.made within (subst (λ (us : List Update). IsOrderOf 0 us w.made) (sym once) w.order)
    ∙ in-turn g updates)

-- So it is where they began with a copy of a state.
pub worked-after : {old copy : Ranked} {new : SimpleGraph} (updates : List Update) → copy ≡ old → EndsAreWithin old.graph.size updates
    → last_of_edges updates ≡ updates → IsWorked copy.graph updates new → new ≡ made_in_turn old.graph updates
worked-after {old} {copy} {new} updates same within once w =
    worked-in_turn updates within once (subst (λ (s : Ranked). IsWorked s.graph updates new) same w)
