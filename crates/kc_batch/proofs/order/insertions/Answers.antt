-- A pair that is pushed has the ends of an update.
use Rattle.std.proofs.Common.{◌<◌, ◌∙◌, ℕ, All, Vec, Global, ap, sym, subst}
use Rattle.std.proofs.lemmas.List.Elements.{All-push}
use Rattle.kc_graph.specs.declared.update.Update.{Update}
use Rattle.kc_batch.proofs.order.insertions.Goals as goal
use Rattle.kc_batch.proofs.order.insertions.Goals.{then-update+in_ok-push, else-update}

pub loop-update-preserved : goal.loop-update-preserved
loop-update-preserved c n all =
    let update = c.update-item.result in
    let low : update.v < n = subst (λ (u : Update). u.v < n) (sym c.update-item.is) (all c.loop-update.update-index update c.loop-update-test.true) in
    let within = c.loop-update.invariant n all in
    elim c.if-update.branch [
      | then-update+in_ok-push w ↦ subst (All Within) (sym (ap (λ (v : Vec (ℕ × ℕ) Global). v.items) w.pairs-is ∙ w.in_ok-push.ensures.items))
          (All-push Within c.loop-update.pairs.items (update.u, update.v) within (update.ordered, low))
      | else-update w ↦ subst (λ (v : Vec (ℕ × ℕ) Global). All Within v.items) (sym w.pairs-is) within
    ]
  where
    Within : ℕ × ℕ → Type 0
    Within p = (p.0 < p.1) × (p.1 < n)
