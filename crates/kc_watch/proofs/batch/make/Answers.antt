-- The updates that decide are of different edges, so made in turn they do what the batch does.
use Rattle.std.proofs.Common.{◌≡◌, ◌<◌, ◌-◌, ℕ, List, length, ap, sym, subst, ◌∙◌, arith}
use Rattle.std.specs.Prelude.{All, not}
use Rattle.kc_graph.specs.SimpleGraph.{SimpleGraph}
use Rattle.kc_graph.specs.declared.update.Update.{Update}
use Rattle.kc_keeper.specs.Batches.{count_applied, made_in_turn, updates_made}
use Rattle.kc_keeper.specs.Cores.{AreCoreChanges}
use Rattle.kc_keeper.specs.declared.changes.CoreChange.{CoreChange}
use Rattle.kc_watch.specs.Accounts.{core_numbers_of}
use Rattle.kc_watch.proofs.Accounts.{numbers-alone}
use Rattle.kc_watch.proofs.Entering.{AreApart, applied-few, effects-of, made-batch, none-outside}
use Rattle.kc_watch.proofs.Spare.{edges-applied, size-made}
use Rattle.kc_watch.proofs.batch.make.Goals as goal

pub overflow_cast-result : goal.overflow_cast-result
overflow_cast-result g c =
    let g : SimpleGraph = c.args.keeper.now.graph in
    let us : List Update = c.in_ok-batch.batch.updates.items in
    let apart : AreApart us = (c.in_ok-batch.ensures.batch g.size c.requires).apart in
    let added : c.make_batch.new.changes.added ≡ count_applied (λ u. u.add) g us =
    c.in-Ok.ensures.added ∙ ap (count_applied (λ u. u.add) g) c.deref.ensures.value in
    omega (arith, added, applied-few g us apart, c.in_ok-batch.ensures.overruled, c.if-updates.false)

pub overflow_cast-result-in-Ok : goal.overflow_cast-result-in-Ok
overflow_cast-result-in-Ok g c =
    let g : SimpleGraph = c.args.keeper.now.graph in
    let us : List Update = c.in_ok-batch.batch.updates.items in
    let apart : AreApart us = (c.in_ok-batch.ensures.batch g.size c.requires).apart in
    let removed : c.make_batch.new.changes.removed ≡ count_applied (λ u. not u.add) g us =
    c.in-Ok.ensures.removed ∙ ap (count_applied (λ u. not u.add) g) c.deref.ensures.value in
    omega (arith, removed, applied-few g us apart, c.in_ok-batch.ensures.overruled, c.if-updates.false)

pub overflow_sub-result : goal.overflow_sub-result
overflow_sub-result g c =
    let g : SimpleGraph = c.args.keeper.now.graph in
    let us : List Update = c.in_ok-batch.batch.updates.items in
    let apart : AreApart us = (c.in_ok-batch.ensures.batch g.size c.requires).apart in
    let added : c.make_batch.new.changes.added ≡ count_applied (λ u. u.add) g us =
    c.in-Ok.ensures.added ∙ ap (count_applied (λ u. u.add) g) c.deref.ensures.value in
    omega (arith, added, applied-few g us apart, c.len-count.ensures)

pub overflow_sub-result-in-Ok : goal.overflow_sub-result-in-Ok
overflow_sub-result-in-Ok g c =
    let g : SimpleGraph = c.args.keeper.now.graph in
    let us : List Update = c.in_ok-batch.batch.updates.items in
    let apart : AreApart us = (c.in_ok-batch.ensures.batch g.size c.requires).apart in
    let added : c.make_batch.new.changes.added ≡ count_applied (λ u. u.add) g us =
    c.in-Ok.ensures.added ∙ ap (count_applied (λ u. u.add) g) c.deref.ensures.value in
    let removed : c.make_batch.new.changes.removed ≡ count_applied (λ u. not u.add) g us =
    c.in-Ok.ensures.removed ∙ ap (count_applied (λ u. not u.add) g) c.deref.ensures.value in
    omega (arith, added, removed, applied-few g us apart, c.len-count.ensures)

pub returns-in-Ok-clause-graph : goal.returns-in-Ok-clause-graph
returns-in-Ok-clause-graph g c =
    let g : SimpleGraph = c.args.keeper.now.graph in
    let us : List Update = c.in_ok-batch.batch.updates.items in
    let apart : AreApart us = (c.in_ok-batch.ensures.batch g.size c.requires).apart in
    made-batch g c.make_batch.new.keeper.graph c.args.updates.now us c.in_ok-batch.ensures.deciding apart
    (c.in-Ok.ensures.graph ∙ ap (made_in_turn g) c.deref.ensures.value)

pub returns-in-Ok-clause-effects : goal.returns-in-Ok-clause-effects
returns-in-Ok-clause-effects g c =
    let g : SimpleGraph = c.args.keeper.now.graph in
    let us : List Update = c.in_ok-batch.batch.updates.items in
    let apart : AreApart us = (c.in_ok-batch.ensures.batch g.size c.requires).apart in
    let count : c.len-count.result ≡ length us = omega (arith, c.len-count.ensures) in
    effects-of g c.args.updates.now us _ c.in_ok-batch.ensures.deciding apart
    (c.in-Ok.ensures.added ∙ ap (count_applied (λ u. u.add) g) c.deref.ensures.value)
    (c.in-Ok.ensures.removed ∙ ap (count_applied (λ u. not u.add) g) c.deref.ensures.value)
    (ap (λ (n : ℕ). n - c.make_batch.new.changes.added - c.make_batch.new.changes.removed) count) c.in_ok-batch.ensures.overruled

pub returns-in-Ok-clause-size : goal.returns-in-Ok-clause-size
returns-in-Ok-clause-size g c =
    let g : SimpleGraph = c.args.keeper.now.graph in
    ap (λ (h : SimpleGraph). h.size) c.make_batch.ensures.graph ∙ size-made (updates_made c.make_batch.result c.deref.result.now) g

pub returns-in-Err-NoMemory-clause-size : goal.returns-in-Err-NoMemory-clause-size
returns-in-Err-NoMemory-clause-size g c =
    let g : SimpleGraph = c.args.keeper.now.graph in
    ap (λ (h : SimpleGraph). h.size) c.make_batch.ensures.graph ∙ size-made (updates_made c.make_batch.result c.deref.result.now) g

pub returns-in-Ok-clause-edges : goal.returns-in-Ok-clause-edges
returns-in-Ok-clause-edges g c = λ vertices all.
    edges-applied vertices c.args.keeper.now.graph c.make_batch.new.keeper.graph c.make_batch.result c.deref.result.now c.make_batch.ensures.graph
    (subst (λ (us : List Update). All (λ u. u.v < vertices) us) (sym c.deref.ensures.value) (c.in_ok-batch.ensures.batch vertices all).within)

pub returns-in-Err-NoMemory-clause-edges : goal.returns-in-Err-NoMemory-clause-edges
returns-in-Err-NoMemory-clause-edges g c = λ vertices all.
    edges-applied vertices c.args.keeper.now.graph c.make_batch.new.keeper.graph c.make_batch.result c.deref.result.now c.make_batch.ensures.graph
    (subst (λ (us : List Update). All (λ u. u.v < vertices) us) (sym c.deref.ensures.value) (c.in_ok-batch.ensures.batch vertices all).within)

pub unreachable-requires : goal.unreachable-requires
unreachable-requires g c =
    let size : ℕ = c.args.keeper.now.graph.size in
    let (outside, same) = rw c.in-Err-NoVertex.field-0-is at c.in-Err-NoVertex.ensures.cause in
    none-outside size c.deref.result.now _ _
    (subst (λ (us : List Update). All (λ u. u.v < size) us) (sym c.deref.ensures.value) (c.in_ok-batch.ensures.batch size c.requires).within) outside

pub returns-in-Ok-clause-cores : goal.returns-in-Ok-clause-cores
returns-in-Ok-clause-cores g c =
    let changes : List CoreChange = c.make_batch.new.changes.cores.items in
    let old : c.args.keeper.now.core ≡ core_numbers_of c.args.keeper.now.graph = numbers-alone _ _ c.recall_certified.ensures.seidman in
    let new : c.make_batch.new.keeper.core ≡ core_numbers_of c.make_batch.new.keeper.graph = numbers-alone _ _ c.in-Ok.ensures.seidman in
    subst (λ (l : List ℕ). AreCoreChanges l (core_numbers_of c.make_batch.new.keeper.graph) changes) old
    (subst (λ (l : List ℕ). AreCoreChanges c.args.keeper.now.core l changes) new c.in-Ok.ensures.cores)
