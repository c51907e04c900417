-- The graph grows by the ids that came, and then the updates are made.
use Rattle.std.proofs.Common.{◌≡◌, ℕ, List, length, ap, ap₂, subst, ◌∙◌}
use Rattle.std.proofs.lemmas.Result.{IfOk-weaker, on_ok_weaker}
use Rattle.kc_graph.specs.Growing.{with_vertices}
use Rattle.kc_graph.specs.SimpleGraph.{SimpleGraph}
use Rattle.kc_graph.specs.declared.update.Update.{Update}
use Rattle.kc_text.specs.Deciding.{last_batch}
use Rattle.kc_batch_effects.specs.Batches.{graph_after_batch}
use Rattle.kc_watch.specs.Accounts.{core_numbers_of}
use Rattle.kc_watch.specs.Effects.{AreEffects}
use Rattle.kc_watch.proofs.Changing.{moves-from}
use Rattle.kc_watch.proofs.kept.Kept.enter.Goals as goal

pub returns-clause-graph : goal.returns-clause-graph
returns-clause-graph g c =
    let g : SimpleGraph = c.args.self.now.keeper.graph in
    let grown : c.grow_to.new.self.graph ≡ with_vertices (length c.args.gathered.now.ids) g =
    c.in_ok-grow_to.ensures.graph ∙ ap (λ (n : ℕ). with_vertices n g) (c.count.ensures.count ∙ ap length c.ids.ensures) in
    on_ok_weaker c.make.result
    (λ e. e ∙ ap₂ (λ (h : SimpleGraph) (us : List Update). graph_after_batch h (last_batch us).updates) grown c.updates.ensures) c.make.ensures.graph

pub returns-clause-effects : goal.returns-clause-effects
returns-clause-effects g c =
    let g : SimpleGraph = c.args.self.now.keeper.graph in
    let grown : c.grow_to.new.self.graph ≡ with_vertices (length c.args.gathered.now.ids) g =
    c.in_ok-grow_to.ensures.graph ∙ ap (λ (n : ℕ). with_vertices n g) (c.count.ensures.count ∙ ap length c.ids.ensures) in
    IfOk-weaker c.make.result (λ effects. AreEffects c.grow_to.new.self.graph (last_batch c.updates.result.now) effects)
    (λ effects. AreEffects g (last_batch c.args.gathered.now.updates.items) effects)
    (λ effects are.
    let e = subst (λ (us : List Update). AreEffects (with_vertices (length c.args.gathered.now.ids) g) (last_batch us) effects) c.updates.ensures
    (subst (λ (h : SimpleGraph). AreEffects h (last_batch c.updates.result.now) effects) grown are) in
    record { added_is = e.added_is; removed_is = e.removed_is; kept_is = e.kept_is; overruled_is = e.overruled_is }) c.make.ensures.effects

pub returns-clause-moves : goal.returns-clause-moves
returns-clause-moves g c =
    let g : SimpleGraph = c.args.self.now.keeper.graph in
    on_ok_weaker c.make.result
    (λ e. moves-from g.size (core_numbers_of g) (core_numbers_of c.grow_to.new.self.graph) (core_numbers_of c.make.new.self.graph)
    c.make.new.changes.cores.items (λ v _. c.in_ok-grow_to.ensures.numbers v) e) c.make.ensures.cores
