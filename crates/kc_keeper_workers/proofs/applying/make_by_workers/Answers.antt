-- The workers have entered each update of the batch, and none of them is of an edge of another one.
use Rattle.std.proofs.Common.{◌≡◌, ℕ, List, sym, ap, ◌∙◌, subst, arith}
use Rattle.kc_graph.specs.Lawful.{Ranked}
use Rattle.kc_graph.specs.SimpleGraph.{SimpleGraph}
use Rattle.kc_text.specs.Inputs.{IsBatch}
use Rattle.kc_keeper.specs.Cores.{AreCoreChanges}
use Rattle.kc_keeper.specs.Telling.{IsToldOf}
use Rattle.kc_keeper.proofs.InTurn.{size-made}
use Rattle.kc_keeper_workers.proofs.Worked.{is-batch, worked-after}
use Rattle.kc_keeper_workers.proofs.applying.make_by_workers.Goals as goal

pub tell_updates-requires : goal.tell_updates-requires
tell_updates-requires g c =
    subst (λ (h : SimpleGraph). IsBatch h.size c.args.updates.now) (sym c.graph.ensures)
    (is-batch c.args.keeper.now.graph.size c.args.updates.now c.requires.within c.requires.once)

pub tell_cores-requires-clause-long : goal.tell_cores-requires-clause-long
tell_cores-requires-clause-long g c =
    let size : SimpleGraph → ℕ = λ h. h.size in
    omega (
      arith,
      c.core_numbers.ensures.seidman.one_each,
      c.core.ensures.seidman.one_each,
      ap size (worked-after c.args.updates.now c.in_ok-lawful.ensures c.requires.within c.requires.once c.in_ok-after.ensures),
      size-made c.args.keeper.now.graph c.args.updates.now,
    )

pub tell_cores-requires-clause-few : goal.tell_cores-requires-clause-few
tell_cores-requires-clause-few g c =
    let size : SimpleGraph → ℕ = λ h. h.size in
    omega (
      arith,
      c.core.ensures.seidman.one_each,
      ap size (worked-after c.args.updates.now c.in_ok-lawful.ensures c.requires.within c.requires.once c.in_ok-after.ensures),
      size-made c.args.keeper.now.graph c.args.updates.now,
      c.vertices-vertices.ensures.few,
      c.vertices-vertices.ensures.size,
    )

pub returns-clause-made : goal.returns-clause-made
returns-clause-made g c =
    let old : Ranked = c.args.keeper.now in
    let us = c.args.updates.now in
    let kept : c.in-Ok.next ≡ c.in_ok-after.after = c.in-Ok.ensures.kept in
    let told : IsToldOf old.graph us c.tell_updates.new.changes =
    subst (λ (h : SimpleGraph). IsToldOf h us c.tell_updates.new.changes) c.graph.ensures c.in_ok-tell_updates.ensures in
    record {
      graph = ap (λ (s : Ranked). s.graph) kept ∙ worked-after us c.in_ok-lawful.ensures c.requires.within c.requires.once c.in_ok-after.ensures;
      told = record { added = told.added; removed = told.removed; applied = told.applied; few = told.few };
      cores = subst (λ (core : List ℕ). AreCoreChanges old.core core c.tell_cores.new.cores.items)
          (c.core.ensures.core ∙ sym (ap (λ (s : Ranked). s.core) kept))
          (subst (λ (core : List ℕ). AreCoreChanges core c.core.result.now c.tell_cores.new.cores.items) c.core_numbers.ensures.core
          c.in_ok-tell_cores.ensures);
    }
