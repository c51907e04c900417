-- Updates of different edges: none changes what another one meets.
use Rattle.std.proofs.Common.{◌≡◌, ◌≢◌, ◌<◌, ◌+◌, ◌&&◌, not, ℕ, Bool, true, false, cond, List, [], ◌∷◌, ◌++◌, length, get_or, take}
use Rattle.std.proofs.Common.{refl, sym, ap, ◌∙◌, subst, arith, get_or-take, length-take}
use Rattle.std.proofs.lemmas.List.{take_more}
use Rattle.std.specs.List.{list_any}
use Rattle.kc_graph.specs.Plans.{is_applied}
use Rattle.kc_graph.specs.SimpleGraph.{SimpleGraph}
use Rattle.kc_graph.specs.declared.update.Update.{Update}
use Rattle.kc_text.specs.Inputs.{IsBatch, edge_of}
use Rattle.kc_text.specs.LastUpdates.{last_of_edges, same_edge}
use Rattle.kc_text.proofs.Decided.{length-last}
use Rattle.kc_keeper.specs.Telling.{IsToldOf}
use Rattle.kc_keeper.specs.declared.changes.Changes.{Changes}
use Rattle.kc_keeper.proofs.InTurn.{applied-others, told-more}

-- What an update meets. ------------------------------------------------------------------------------------

-- one update more of a batch is told of, with whether it changes the graph before the batch
pub one-more : {g : SimpleGraph} {us : List Update} {i : ℕ} {old new : Changes} (vertices : ℕ) (u : Update) (applied : Bool) → IsBatch vertices us
    → i < length us → u ≡ get_or us i u → IsToldOf g (take i us) old → applied ≡ is_applied u g → new.added ≡ old.added + cond (u.add && applied) 1 0
    → new.removed ≡ old.removed + cond (not u.add && applied) 1 0
    → new.applied.items ≡ cond applied (old.applied.items ++ u ∷ []) old.applied.items → IsToldOf g (take (i + 1) us) new
one-more {g} {us} {i} {old} {new} vertices u applied is_batch low here told is added removed list =
    let more : take (i + 1) us ≡ take i us ++ u ∷ [] = take_more us i u low ∙ ap (λ (z : Update). take i us ++ z ∷ []) (sym here) in
    let apart : (k : ℕ) → k < length (take i us) → edge_of (get_or (take i us) k u) ≢ edge_of u =
    λ k l e.
    let below : k < i = omega (arith, l, length-take i us) in
    is_batch.apart k i u below low (ap edge_of (sym (get_or-take i us k u below)) ∙ (e ∙ ap edge_of here)) in
    subst (λ (z : List Update). IsToldOf g z new) (sym more)
    (told-more u applied (is ∙ sym (applied-others (take i us) g u apart)) added removed list g (take i us) refl told)

-- The last updates of edges. -------------------------------------------------------------------------------

-- where they are as many they are all
pub all-decide : (us : List Update) → length (last_of_edges us) ≡ length us → last_of_edges us ≡ us
all-decide [] many = refl
all-decide (x ∷ rest) many =
    elim (list_any (same_edge x) rest) as (λ t. length (cond t (last_of_edges rest) (x ∷ last_of_edges rest)) ≡ length (x ∷ rest)
    → cond t (last_of_edges rest) (x ∷ last_of_edges rest) ≡ x ∷ rest) [
      | true ↦ λ k. absurd (omega (arith, k, length-last rest))
      | false ↦ λ k. ap (λ (z : List Update). x ∷ z) (all-decide rest (omega (arith, k)))
    ] many
