-- The four conditions make the certificate, for high neighbours are as many in the order as below `n`; and it gives core numbers.
use Rattle.std.proofs.Common.{ℕ, ◌∙◌, subst}
use Rattle.kc_graph.specs.Certificate.{Enumerates}
use Rattle.kc_graph.proofs.Law.{certified-core_numbers}
use Rattle.kc_cert.proofs.Counts.{all_conditions, enough_in}
use Rattle.kc_cert.proofs.check.Goals as goal

pub returns-then-few_later-clause-exact : goal.returns-then-few_later-clause-exact
returns-then-few_later-clause-exact c = (
  λ high.
      let e = subst (λ (n : ℕ). Enumerates n c.args.order.now) c.vertices-n.ensures (c.in_ok-is_enumeration.ensures.0 c.if-not-branch.false) in
      all_conditions c.args.graph.now c.args.core.now c.args.order.now (c.if-core-n.false ∙ c.vertices-n.ensures) e
      (c.never_falls-rising.ensures.0 c.if-few_later.true.0) (c.in_ok-few_later.ensures.0 c.if-few_later.true.1)
      (c.has_enough_as_high-enough_as_high.ensures.0 high),
  λ h. c.has_enough_as_high-enough_as_high.ensures.1 (enough_in c.args.graph.now c.args.core.now c.args.order.now h),
)

pub returns-then-few_later-clause-seidman : goal.returns-then-few_later-clause-seidman
returns-then-few_later-clause-seidman c = λ high. certified-core_numbers c.args.graph.now c.args.core.now c.args.order.now
    ((returns-then-few_later-clause-exact c).0 high)
