-- Each stripe that is taken out of its lock is put at the end.
use Rattle.std.proofs.Common.{◌≡◌, arith}
use Rattle.std.proofs.lemmas.List.Elements.{All-push}
use Rattle.kc_stripes.specs.Records.{Striped}
use Rattle.kc_stripes.proofs.stripes.Stripes.into_stripes.Goals as goal

pub loop-lock-preserved : goal.loop-lock-preserved
loop-lock-preserved g c =
    let inv = c.loop-lock.invariant in (
      rw c.push_reserved.ensures.items (
          All-push (λ (s : Striped). s.opened ≡ g.K.Name.opened)
          c.loop-lock.stripes.items c.into_stripe.result inv.0 c.into_stripe.ensures
          ),
      omega (arith, inv.1, c.push_reserved.ensures.len, c.in-Some.ensures.steps.1),
      omega (arith, inv.2, c.push_reserved.ensures.capacity),
    )
