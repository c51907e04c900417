-- At level 0 no vertex has a level below, so all can fall just where there are none.
use Rattle.std.proofs.Common.{length, sym, ◌∙◌, arith, eqb-true, eq-eqb}
use Rattle.kc_cert.proofs.Asking.{no_member, empty_from}
use Rattle.kc_cert.proofs.fitting.can_fall.Goals as goal

pub returns-then-level-eq0 : goal.returns-then-level-eq0
returns-then-level-eq0 g c = (
  λ t. λ x m. absurd (no_member c.args.vertices.now x (eqb-true (length c.args.vertices.now) 0 (sym c.is_empty.ensures ∙ t)) m),
  λ h.
      c.is_empty.ensures
      ∙ eq-eqb (length c.args.vertices.now) 0
      (empty_from c.args.vertices.now (λ x m. let k = h x m in omega (arith, k.1, c.if-level-eq0.true))),
)
