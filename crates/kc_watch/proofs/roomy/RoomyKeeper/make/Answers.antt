-- The keeper makes the updates, which leave the spare vertices without edges.
use Rattle.std.proofs.Common.{◌≡◌, ◌∙◌, ℕ, ap, arith, subst, sym}
use Rattle.std.proofs.lemmas.Result.{IfOk-weaker, on_ok_weaker}
use Rattle.std.specs.Prelude.{All, slice_index}
use Rattle.kc_batch_effects.specs.Batches.{graph_after_batch}
use Rattle.kc_graph.specs.Growing.{with_vertices}
use Rattle.kc_graph.specs.SimpleGraph.{SimpleGraph}
use Rattle.kc_stream.specs.Gathering.{IsUpdateBelow}
use Rattle.kc_text.specs.Deciding.{last_batch}
use Rattle.kc_watch.specs.Accounts.{core_numbers_of}
use Rattle.kc_watch.specs.Effects.{AreEffects}
use Rattle.kc_watch.specs.Layered.{LayeredGraph}
use Rattle.kc_watch.proofs.Spare.{changes-same, room, spare-numbers}
use Rattle.kc_watch.proofs.roomy.RoomyKeeper.make.Goals as goal

pub make-requires : goal.make-requires
make-requires g c =
    let size : c.self.inside.vertices ≡ c.args.self.now.graph.size = ap (λ (k : LayeredGraph). k.graph.size) c.self.view_is in
    λ i d low. omega (arith, c.requires i d low, size, c.self.invariant.fits)

pub invariant_of-self : goal.invariant_of-self
invariant_of-self g c =
    let n : ℕ = c.self.inside.vertices in
    let size : n ≡ c.args.self.now.graph.size = ap (λ (k : LayeredGraph). k.graph.size) c.self.view_is in
    room c.make.new.keeper.graph n (omega (arith, c.make.ensures.size, c.self.invariant.fits))
    (c.make.ensures.edges n (subst (λ (m : ℕ). All (IsUpdateBelow m) c.args.updates.now) (sym size) c.requires) c.self.invariant.edges)

pub returns-clause-graph : goal.returns-clause-graph
returns-clause-graph g c =
    let graph : with_vertices c.self.inside.vertices c.self.inside.keeper.graph ≡ c.args.self.now.graph = ap (λ (k : LayeredGraph). k.graph) c.self.view_is in
    on_ok_weaker c.make.result
    (λ e. ap (with_vertices c.self.inside.vertices) e
    ∙ ap (λ (g : SimpleGraph). graph_after_batch g (last_batch c.args.updates.now).updates) graph) c.make.ensures.graph

pub returns-clause-effects : goal.returns-clause-effects
returns-clause-effects g c =
    let g : SimpleGraph = c.self.inside.keeper.graph in
    let graph : with_vertices c.self.inside.vertices g ≡ c.args.self.now.graph = ap (λ (k : LayeredGraph). k.graph) c.self.view_is in
    IfOk-weaker c.make.result (λ effects. AreEffects g (last_batch c.args.updates.now) effects)
    (λ effects. AreEffects c.args.self.now.graph (last_batch c.args.updates.now) effects)
    (λ effects are.
    let first : AreEffects (with_vertices c.self.inside.vertices g) (last_batch c.args.updates.now) effects =
    record { added_is = are.added_is; removed_is = are.removed_is; kept_is = are.kept_is; overruled_is = are.overruled_is } in
    subst (λ (h : SimpleGraph). AreEffects h (last_batch c.args.updates.now) effects) graph first) c.make.ensures.effects

pub returns-clause-cores : goal.returns-clause-cores
returns-clause-cores g c =
    let n : ℕ = c.self.inside.vertices in
    let g : SimpleGraph = c.self.inside.keeper.graph in
    let new : SimpleGraph = c.make.new.keeper.graph in
    let size : n ≡ c.args.self.now.graph.size = ap (λ (k : LayeredGraph). k.graph.size) c.self.view_is in
    let graph : with_vertices n g ≡ c.args.self.now.graph = ap (λ (k : LayeredGraph). k.graph) c.self.view_is in
    on_ok_weaker c.make.result
    (λ e. changes-same (core_numbers_of g) (core_numbers_of c.args.self.now.graph) (core_numbers_of new) (core_numbers_of (with_vertices n new))
    c.make.new.changes.cores.items
    (λ v. spare-numbers g n c.self.invariant.fits c.self.invariant.edges v ∙ ap (λ (h : SimpleGraph). slice_index (core_numbers_of h) v) graph)
    (λ v. spare-numbers new n (omega (arith, c.make.ensures.size, c.self.invariant.fits))
    (c.make.ensures.edges n (subst (λ (m : ℕ). All (IsUpdateBelow m) c.args.updates.now) (sym size) c.requires) c.self.invariant.edges) v) e)
    c.make.ensures.cores
