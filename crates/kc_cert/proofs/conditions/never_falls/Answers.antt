-- A number no less than the last goes on rising; a lesser one is less than that of the vertex right before it in the order.
use Rattle.std.proofs.Common.{ℕ, refl, subst, arith}
use Rattle.std.proofs.lemmas.Bool.{false≢true}
use Rattle.kc_cert.proofs.Falling.{RisenTo, risen_more, risen_all, numbers-fall}
use Rattle.kc_cert.proofs.conditions.never_falls.Goals as goal

pub returns-then-number-last : goal.returns-then-number-last
returns-then-number-last c = (
  λ h. absurd (false≢true h),
  λ rising. absurd (numbers-fall c.args.core.now c.args.order.now c.loop-v.v-index c.loop-v.last c.loop-v.invariant c.loop-v-test.true
      c.if-number-last.true rising),
)

pub loop-v-preserved : goal.loop-v-preserved
loop-v-preserved c = risen_more c.args.core.now c.args.order.now c.loop-v.v-index c.loop-v.last c.loop-v.invariant c.if-number-last.false

pub returns : goal.returns
returns c = (
  λ _.
      risen_all c.args.core.now c.args.order.now c.loop-v.last
      (subst (λ (i : ℕ). RisenTo c.args.core.now c.args.order.now i c.loop-v.last) (omega arith) c.loop-v.invariant),
  λ _. refl,
)
