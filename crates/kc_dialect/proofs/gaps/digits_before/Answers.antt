-- The lowest bit that is set stands for the first gap.
use Rattle.std.proofs.Common.{refl, arith}
use Rattle.kc_dialect.proofs.GapBits.{ends-before}
use Rattle.kc_dialect.proofs.gaps.digits_before.Goals as goal

pub returns : goal.returns
returns c = (
  omega (arith, c.if-digits-gt-MOST_DIGITS.false),
  λ bytes are.
      ends-before bytes c.args.gaps _ c.ranges.gaps.fits refl (omega (arith, c.if-digits-eq0.false)) (omega (arith, c.if-digits-gt-MOST_DIGITS.false)) are,
)
