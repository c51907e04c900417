-- What adding an arc tells a caller that had seen a prefix of the log.
use Rattle.std.proofs.Common.{◌≡◌, ℕ, true, List, [], ◌∷◌, ◌++◌, map, sym, ap, ◌∙◌, subst, inl, inr, true≢false}
use Rattle.std.specs.Prelude.{IfErr, IfOk, OnErr, Result, Ok, Err}
use Rattle.std.proofs.lemmas.Bool.{false≢true, false_from_ne_true, or_cases, or_left, or_right}
use Rattle.std.proofs.lemmas.List.{map-append}
use Rattle.std.proofs.Common.{◌&&◌, eqb}
use mathlib.Core.List.{IsPrefix}
use Rattle.kc_table.specs.declared.entry.Entry.{Entry}
use Rattle.kc_table.specs.declared.view.Event.{Event}
use Rattle.kc_table.specs.Log.{Seen, TableName}
use Rattle.kc_table.proofs.LegalLogs.{entries-prefix}
use Rattle.kc_topo.specs.Arcs.{arc_of, arcs_after, has_arc}
use Rattle.kc_topo.specs.Dags.{AddsArc, IsAdded, IsAddedSince, IsRefused}
use Rattle.kc_topo.specs.declared.added.Added.{Added}
use Rattle.kc_topo.specs.declared.added.Added.TheVariants as added
use Rattle.kc_topo.specs.declared.fault.DagFault.{DagFault}

-- an arc that is among the first ones is among all of them
arc-front : (arcs more : List (ℕ × ℕ)) (a b : ℕ) → has_arc arcs a b ≡ true → has_arc (arcs ++ more) a b ≡ true
arc-front [] more a b h = absurd (false≢true h)
arc-front (arc ∷ arcs) more a b h = elim (or_cases (eqb a arc.0 && eqb b arc.1) (has_arc arcs a b) h) [
  | inl e ↦ or_left (eqb a arc.0 && eqb b arc.1) (has_arc (arcs ++ more) a b) e
  | inr k ↦ or_right (eqb a arc.0 && eqb b arc.1) (has_arc (arcs ++ more) a b) (arc-front arcs more a b k)
]

-- an arc that stands after a prefix of a log stands after the log
arc-stays : (table : TableName) (prefix log : List Event) (a b : ℕ) → IsPrefix prefix log → has_arc (arcs_after table prefix) a b ≡ true
    → has_arc (arcs_after table log) a b ≡ true
arc-stays table prefix log a b p h =
    let q = entries-prefix table.shape table.opening prefix log p in
    ap (λ (es : List Entry). has_arc (map arc_of es) a b) (sym q.1)
    ∙ (ap (λ (zs : List (ℕ × ℕ)). has_arc zs a b) (map-append arc_of _ q.0) ∙ arc-front (arcs_after table prefix) (map arc_of q.0) a b h)

module _ (old new : Seen) (table : TableName) (before after : List Event) (a b : ℕ) (at : old.table ≡ table) (same : new.table ≡ old.table)
    (longer : IsPrefix before old.log) (is : after ≡ new.log) where
  -- the arcs before are of the table
  old-is : old ≡ record { table = table; log = old.log }
  old-is i = record { table = at i; log = old.log }

  -- the arcs after are of the table
  new-is : new ≡ record { table = table; log = after }
  new-is i = record { table = (same ∙ at) i; log = sym is i }

  -- what a call added is added since the prefix that was seen
  since : (d : Added) → IsAdded old new a b d → IsAddedSince table before after a b d
  since added.There h = ap (λ (s : Seen). has_arc (arcs_after s.table s.log) a b) (sym new-is ∙ h.1) ∙ h.0
  since added.New h = record {
    before = old.log;
    longer = longer;
    unseen = false_from_ne_true (has_arc (arcs_after table before) a b) (λ k. true≢false (sym (arc-stays table before old.log a b longer k)
        ∙ (ap (λ (s : Seen). has_arc (arcs_after s.table s.log) a b) (sym old-is) ∙ h.fresh)));
    adds = subst (λ (s : Seen). AddsArc s (record { table = table; log = after }) a b) old-is (subst (λ (s : Seen). AddsArc old s a b) new-is h);
  }

  -- so it is for a call that may fail
  pub added-since : (r : Result Added DagFault) → IfOk r (IsAdded old new a b) → IfOk r (IsAddedSince table before after a b)
  added-since (Ok d) h = since d h
  added-since (Err f) h = tt

  -- a refusal by the log that stood is one by what the caller has seen now
  pub refused-since : (r : Result Added DagFault) → OnErr r (new ≡ old) → IfErr r (IsRefused old a b)
      → IfErr r (IsRefused (record { table = table; log = after }) a b)
  refused-since (Ok d) stays h = tt
  refused-since (Err f) stays h = subst (λ (s : Seen). IsRefused s a b f) (sym stays ∙ new-is) h
