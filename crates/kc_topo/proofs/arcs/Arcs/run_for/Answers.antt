-- Where a stands before b already none moves; else b stands before a, and the search finds the run.
use Rattle.std.proofs.Common.{◌<◌, ℕ, List, sym, ◌∙◌, subst, inl, inr, true≢false}
use Rattle.kc_table.specs.Log.{Seen}
use Rattle.kc_table.proofs.Prefixes.{prefix_self}
use Rattle.kc_order.specs.Standing.{list_after}
use Rattle.kc_topo.specs.Arcs.{Reaches, arcs_after}
use Rattle.kc_topo.specs.Dags.{IsDag, IsRunFor}
use Rattle.kc_topo.proofs.Trails.{run-of_none}
use Rattle.kc_topo.proofs.Walks.{one-first}
use Rattle.kc_topo.proofs.arcs.Arcs.run_for.Goals as goal

pub returns-then-precedes-clause-run : goal.returns-then-precedes-clause-run
returns-then-precedes-clause-run c =
    let seen : Seen = c.self.inside.writer in
    let dag : IsDag seen.table seen.log = c.self.invariant.0.dag seen.log (prefix_self seen.log) in
    let none = run-of_none seen c.args.a c.args.b dag.topological (c.precedes.ensures.0 c.if-precedes.true) in
    subst (λ (z : Seen). IsRunFor z c.args.a c.args.b c.new.result.items × (Reaches (arcs_after z.table z.log) c.args.b c.args.a → ⊥)) c.self.view_is
    (subst (λ (r : List ℕ). IsRunFor seen c.args.a c.args.b r × (Reaches (arcs_after seen.table seen.log) c.args.b c.args.a → ⊥))
    (sym c.new.ensures.items) none)

pub find_run-answer-requires-clause-before : goal.find_run-answer-requires-clause-before
find_run-answer-requires-clause-before c =
    let seen : Seen = c.self.inside.writer in
    let dag : IsDag seen.table seen.log = c.self.invariant.0.dag seen.log (prefix_self seen.log) in
    let low : (c.args.a < seen.table.shape.items) × (c.args.b < seen.table.shape.items) =
    subst (λ (z : Seen). (c.args.a < z.table.shape.items) × (c.args.b < z.table.shape.items)) (sym c.self.view_is) c.requires.vertices in
    elim (one-first c.args.a c.args.b (list_after seen.table seen.log) (dag.vertices c.args.a low.0) (dag.vertices c.args.b low.1) c.if-a-b.false) [
      | inl s ↦ absurd (true≢false (sym (c.precedes.ensures.1 s) ∙ c.if-precedes.false))
      | inr s ↦ s
    ]
