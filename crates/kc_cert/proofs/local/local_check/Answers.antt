-- A plan that rightly keeps all passes in a certified state; another passes where its moves fit and the certificate holds around them.
use Rattle.std.proofs.Common.{◌≡◌, ◌<◌, true, false, refl, sym, ◌∙◌, arith}
use Rattle.kc_graph.specs.Lawful.{Ranked}
use Rattle.kc_graph.specs.Plans.{is_applied}
use Rattle.kc_cert.specs.Local.{is_kept}
use Rattle.kc_cert.proofs.Asking.{other_bool_true, other_bool_false}
use Rattle.kc_cert.proofs.Keeping.{certified_after}
use Rattle.kc_cert.proofs.Looking.{kept_local, changed_local, local_changed}
use Rattle.kc_cert.proofs.local.local_check.Goals as goal

pub returns-then-not-applied-clause-exact : goal.returns-then-not-applied-clause-exact
returns-then-not-applied-clause-exact g c =
    let s : Ranked = g.S.State.state c.args.state.now in
    let plan = c.args.plan.now in
    let ends : plan.update.v < s.graph.size = omega (arith, c.if-update-vertices.false, c.vertices.ensures.number) in
    let kept : is_kept plan.moves ≡ true =
    sym c.is_kept.ensures
    ∙ other_bool_true c.is_kept.result c.is_applied-applied.result c.if-is_kept-applied.false c.if-not-applied.true in
    (λ _. kept_local s plan c.vertices.ensures.certified ends kept (sym c.is_applied-applied.ensures ∙ c.if-not-applied.true), λ _. refl)

pub returns-clause-exact : goal.returns-clause-exact
returns-clause-exact g c =
    let s : Ranked = g.S.State.state c.args.state.now in
    let plan = c.args.plan.now in
    let ends : plan.update.v < s.graph.size = omega (arith, c.if-update-vertices.false, c.vertices.ensures.number) in
    let kept : is_kept plan.moves ≡ false =
    sym c.is_kept.ensures
    ∙ other_bool_false c.is_kept.result c.is_applied-applied.result c.if-is_kept-applied.false c.if-not-applied.false in
    let applied : is_applied plan.update s.graph ≡ true = sym c.is_applied-applied.ensures ∙ c.if-not-applied.false in (
      λ t. let h = c.in_ok-passes.ensures.0 t in changed_local s plan ends kept applied h.0 h.1,
      λ h. c.in_ok-passes.ensures.1 (local_changed s plan kept h),
    )

pub returns-clause-certified : goal.returns-clause-certified
returns-clause-certified g c =
    λ t. certified_after (g.S.State.state c.args.state.now) c.args.plan.now c.vertices.ensures.certified ((returns-clause-exact g c).0 t)
