-- The edges of what is read join vertices that there are, and it has no more updates than a text may have.
use Rattle.std.proofs.Common.{◌≡◌, ◌<◌, ◌≤◌, ℕ, List, [], ◌∷◌, length, map, flat_map, sym, ap, subst, ◌∙◌, arith, length-append}
use Rattle.std.specs.Prelude.{All}
use Rattle.std.proofs.lemmas.List.{length-map}
use Rattle.std.proofs.lemmas.List.Sums.{sum_by-cons}
use Rattle.kc_graph.specs.declared.update.Update.{Update}
use Rattle.kc_text.specs.Inputs.{EdgeBatch, IsInput, numbered_batch, numbered_change, parts_of, parts_of_batch, start_graph}
use Rattle.kc_text.specs.declared.limits.TheConstants.Limits.{KCORE}
use Rattle.kc_text.specs.Meaning.{Means, Told, batches, meaning}
use Rattle.kc_text.specs.Overruling.{deciding}
use Rattle.kc_text.specs.declared.batch.Batch.{Batch}
use Rattle.kc_text.specs.declared.change.ChangeLine.{ChangeLine}
use Rattle.kc_text.specs.declared.input.Input.{Input}
use Rattle.kc_text.specs.declared.limits.TheConstants.{MOST_UPDATES}
use Rattle.kc_text.proofs.Overruled.{deciding-count}
use Rattle.kc_text.proofs.WithinLimits.{meaning-fit}
use Rattle.kc_read.proofs.StartGraphs.{size-start_graph}
use Rattle.kc_run.specs.Entered.{update_count}
use Rattle.kc_output.specs.Inputs.{updates_of}

-- the edges of an input join two of its ids
pub edges_within : (told : Told) (input : Input) → IsInput told input → All (λ p. (p.0 < p.1) × (p.1 < length input.ids.items)) input.start.items
edges_within told input is = subst (λ (n : ℕ). All (λ p. (p.0 < p.1) × (p.1 < n)) input.start.items)
    (size-start_graph input.ids.items told.edges) is.start.within

-- how many updates the first of several batches has, and 0 where there is none
abbrev first_count : List EdgeBatch → ℕ
first_count [] = 0
first_count (batch ∷ batches) = length batch.updates

-- all batches but the first
abbrev rest_of : List EdgeBatch → List EdgeBatch
rest_of [] = []
rest_of (batch ∷ batches) = batches

-- no more updates decide than there are changes
few-decide : (ids : List ℕ) (made : List Batch) (told : List (List ChangeLine)) → map parts_of_batch made ≡ map (numbered_batch ids) told
    → update_count (updates_of made) ≤ length (flat_map (λ batch. batch) told)
few-decide ids [] [] e = omega arith
few-decide ids [] (b ∷ told) e = absurd (omega (arith, ap length e))
few-decide ids (m ∷ made) [] e = absurd (omega (arith, ap length e))
few-decide ids (m ∷ made) (b ∷ told) e =
    let here : length m.updates.items ≡ length (deciding b) =
    sym (length-map m.updates.items parts_of) ∙ (ap first_count e ∙ length-map (deciding b) (numbered_change ids)) in
    omega (
      arith,
      sum_by-cons (λ (xs : List Update). length xs) m.updates.items (updates_of made),
      here,
      deciding-count b,
      length-append b (flat_map (λ batch. batch) told),
      few-decide ids made told (ap rest_of e),
    )

-- an input has no more updates than a text may have changes
pub few_updates : (bytes : List ℕ) (told : Told) (input : Input) → meaning KCORE bytes ≡ Means told → IsInput told input
    → update_count (updates_of input.batches.items) ≤ MOST_UPDATES
few_updates bytes told input means is =
    omega (arith, few-decide input.ids.items input.batches.items (batches told) is.batches, (meaning-fit KCORE bytes told means).within.changes)
