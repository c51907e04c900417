-- The last place is not before that of `w`, and a place where another vertex stands is behind it.
use Rattle.std.proofs.Common.{◌≢◌, get_or, ◌∙◌, ap, arith}
use Rattle.kc_lists.specs.Lists.{place_of}
use Rattle.kc_cert.proofs.Ordered.{rank-here}
use Rattle.kc_cert.proofs.chains.place_from_end.Goals as goal

pub loop-place-init : goal.loop-place-init
loop-place-init c = let here = rank-here c.args.w c.args.line.now c.requires in (omega (arith, here.0), omega (arith, here.0))

pub loop-place-preserved : goal.loop-place-preserved
loop-place-preserved c =
    let here = rank-here c.args.w c.args.line.now c.requires in
    let other : c.loop-place.place ≢ place_of c.args.w c.args.line.now = λ e. c.loop-place-test.true (ap (λ k. get_or c.args.line.now k 0) e ∙ here.1) in
    (omega (arith, c.loop-place.invariant.0), omega (arith, c.loop-place.invariant.1, other))
