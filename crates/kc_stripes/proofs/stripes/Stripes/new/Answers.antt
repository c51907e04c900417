-- Each stripe is taken from the front of those that are left, and put under a lock at the end.
use Rattle.std.proofs.Common.{◌≡◌, ◌∙◌, ap, arith, length}
use Rattle.std.proofs.lemmas.List.Elements.{All-rest}
use Rattle.std.specs.Vec.Iter.{drain_items}
use Rattle.kc_stripes.specs.Records.{Striped}
use Rattle.kc_stripes.proofs.stripes.Stripes.new.Goals as goal

pub loop-stripe-preserved : goal.loop-stripe-preserved
loop-stripe-preserved g c =
    let inv = c.loop-stripe.invariant in
    let step = c.in-Some.ensures.steps in
    let opened = λ (s : Striped). s.opened ≡ g.K.Name.opened in (
      All-rest opened c.in-Some.stripe (drain_items c.next.new.self) (drain_items c.loop-stripe.stripe-iterator) step.0 inv.0,
      omega (arith, inv.1, c.push_reserved.ensures.len, ap length step.0),
      omega (arith, inv.2, c.push_reserved.ensures.capacity),
      step.2.1 ∙ inv.3,
      omega (arith, inv.4, step.2.2),
    )
