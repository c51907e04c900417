-- The graph after a plan is that after the plan's entry.
use Rattle.std.proofs.Common.{◌≡◌, ℕ, Bool, true, false, not, refl, sym, arith}
use Rattle.kc_graph.specs.SimpleGraph.{SimpleGraph}
use Rattle.kc_graph.specs.Plans as plans
use Rattle.kc_graph.specs.declared.update.Update.{Update}
use Rattle.kc_graph.specs.declared.plan.Moves.{Moves}
use Rattle.kc_graph.specs.declared.plan.Moves.TheVariants.{Kept, Plain, Rise, Fall}
use Rattle.kc_cert.specs.Local.{is_kept}
use Rattle.kc_table.specs.declared.entry.Entry.{Entry}
use Rattle.kc_table.specs.Edges.{after_entry}
use Rattle.kc_agree.proofs.Neighbouring.{not_applied}

-- a test that is not kept is false
not_from : (b : Bool) → true ≡ not b → b ≡ false
not_from b h = grind (arith, h)

-- the graph after a plan that says truly whether it changes nothing
pub graph_of_plan : (update : Update) (moves : Moves) (g : SimpleGraph) (index : ℕ) → is_kept moves ≡ not (plans.is_applied update g)
    → plans.graph_after update moves g ≡ after_entry g (record { index = index; add = update.add; u = update.u; v = update.v })
graph_of_plan update Kept g index h =
    let less = update.ordered in
    let entry : Entry = record { index = index; add = update.add; u = update.u; v = update.v } in
    sym (not_applied g entry (λ e. omega (arith, less, e)) (not_from (plans.is_applied update g) h))
graph_of_plan update Plain g index h = refl
graph_of_plan update (Rise level rise shifts) g index h = refl
graph_of_plan update (Fall level fall) g index h = refl
