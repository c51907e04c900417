-- What was kept of the vertices that moved, settled, is what changed.
use Rattle.std.proofs.Common.{◌≡◌, ℕ, List, sym, ap, ◌∙◌, subst}
use Rattle.kc_graph.specs.Lawful.{Ranked}
use Rattle.kc_graph.specs.SimpleGraph.{SimpleGraph}
use Rattle.kc_graph.specs.declared.update.Update.{Update}
use Rattle.kc_keeper.specs.Batches.{made_in_turn, updates_made}
use Rattle.kc_keeper.specs.Cores.{AreCoreChanges}
use Rattle.kc_keeper.specs.Earlier.{AreEarlier}
use Rattle.kc_keeper.specs.Telling.{IsToldOf}
use Rattle.kc_keeper.specs.declared.changes.Changes.{Changes}
use Rattle.kc_keeper.specs.declared.changes.CoreChange.{CoreChange}
use Rattle.kc_keeper.proofs.Settling.{earlier-none}
use Rattle.kc_keeper.proofs.keeper.Keeper.apply_in_turn.Goals as goal

pub returns-clause-made : goal.returns-clause-made
returns-clause-made c =
    let start : List ℕ = c.take_earlier-earlier.new.self.core in
    let now : List ℕ = c.make_all-made.new.self.core in
    let made : List Update = updates_made c.make_all-made.result c.args.updates.now in
    let same : c.take_earlier-earlier.new.self ≡ c.args.self.now = c.take_earlier-earlier.ensures.same in
    let read : c.core_numbers.result.now ≡ now = c.core_numbers.ensures.core in
    let kept : AreEarlier start now c.make_all-made.new.earlier =
    c.make_all-made.ensures.earlier start (earlier-none start c.take_earlier-earlier.result c.take_earlier-earlier.ensures.earlier) in
    let settles = c.settle.ensures start (subst (λ (core : List ℕ). AreEarlier start core c.make_all-made.new.earlier) (sym read) kept) in
    let last : c.core_numbers.result.now ≡ c.self.inside.journal.levels.core = read ∙ sym (ap (λ (s : Ranked). s.core) c.self.view_is) in
    let list : c.settle.new.self.cores.items ≡ c.swap.new.x.items = sym (ap (λ cs. cs.items) c.swap.ensures.x_after) in
    let told : IsToldOf c.args.self.now.graph made c.make_all-made.new.changes =
    subst (λ (s : Ranked). IsToldOf s.graph made c.make_all-made.new.changes) same c.make_all-made.ensures.told in
    record {
      graph = ap (λ (s : Ranked). s.graph) c.self.view_is
          ∙ (c.make_all-made.ensures.graph ∙ ap (λ (s : Ranked). made_in_turn s.graph made) same);
      told = record { added = told.added; removed = told.removed; applied = told.applied; few = told.few };
      cores = subst (λ (core : List ℕ). AreCoreChanges core c.self.inside.journal.levels.core c.swap.new.x.items) (ap (λ (s : Ranked). s.core) same)
          (subst (λ (core : List ℕ). AreCoreChanges start core c.swap.new.x.items) last
          (subst (λ (cs : List CoreChange). AreCoreChanges start c.core_numbers.result.now cs) list settles));
    }
