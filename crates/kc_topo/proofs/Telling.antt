-- What a comparison tells of a graph, once a longer log is known to keep the list topological along the way.
use Rattle.std.proofs.Common.{◌≡◌, ◌<◌, ℕ, List, sym, ap, ◌∙◌, subst, inl, inr}
use Rattle.std.proofs.lemmas.Bool.{false≢true}
use mathlib.Core.List.{IsPrefix}
use Rattle.kc_lists.specs.Lists.{member}
use Rattle.kc_table.specs.declared.view.Event.{Event}
use Rattle.kc_table.specs.Log.{PassSeen, TableName}
use Rattle.kc_table.proofs.Prefixes.{prefix_trans}
use Rattle.kc_order.specs.Standing.{Compares, FoundOut, StoodBefore, list_after}
use Rattle.kc_order.specs.declared.answer.Answer.{Answer}
use Rattle.kc_order.specs.declared.answer.Answer.TheVariants as answer
use Rattle.kc_topo.specs.Dags.{IsDagAlong, StoodInDag, TellsOfDag}

-- after a prefix of a log that keeps the list topological along the way, it is topological
stood-in_dag : (table : TableName) (old new log : List Event) (x y : ℕ) → IsPrefix new log → IsDagAlong table log → StoodBefore table old new x y
    → StoodInDag table old new x y
stood-in_dag table old new log x y longer dag stood = record {
  prefix = stood.prefix;
  between = stood.between;
  stood = stood.stood;
  dag = dag stood.prefix (prefix_trans stood.prefix new log stood.between.extended longer);
}

-- no vertex is found out of the list
never_out : (table : TableName) (old new : PassSeen) (log : List Event) (v : ℕ) → IsPrefix new.log log → IsDagAlong table log → old.table ≡ table
    → v < table.shape.items → FoundOut old new v → ⊥
never_out table old new log v longer dag at low out =
    false≢true (sym out.absent ∙ (ap (λ t. member v (list_after t new.log)) (out.loaded.table ∙ at) ∙ (dag new.log longer).vertices v low))

-- what a comparison of a pass tells
pub tells-of_dag : (table : TableName) (old new : PassSeen) (log : List Event) (x y : ℕ) (a : Answer) → old.table ≡ table → x < table.shape.items
    → y < table.shape.items → IsPrefix new.log log → IsDagAlong table log → Compares old new x y a → TellsOfDag table old.log new.log x y a
tells-of_dag table old new log x y answer.Before at x-in y-in longer dag h =
    stood-in_dag table old.log new.log log x y longer dag (subst (λ (t : TableName). StoodBefore t old.log new.log x y) at h.1)
tells-of_dag table old new log x y answer.After at x-in y-in longer dag h =
    stood-in_dag table old.log new.log log y x longer dag (subst (λ (t : TableName). StoodBefore t old.log new.log y x) at h.1)
tells-of_dag table old new log x y answer.Same at x-in y-in longer dag h = h.0
tells-of_dag table old new log x y (answer.Absent item) at x-in y-in longer dag h = elim h.1 [
  | inl k ↦ never_out table old new log x longer dag at x-in k.1
  | inr k ↦ never_out table k.1.0 new log y longer dag (k.1.1.loaded.table ∙ at) y-in k.1.2
]
tells-of_dag table old new log x y (answer.Again again) at x-in y-in longer dag h = tt
