-- Nothing was taken, and no line was looked at.
use Rattle.std.proofs.Common.{refl}
use Rattle.kc_claims.proofs.Pieced.{HasTakenText-none}
use Rattle.kc_claims.proofs.ascending.AscendingCheck.new.Goals as goal

pub returns : goal.returns
returns c = λ claims order h.
    HasTakenText-none claims order c.args.claimed _ h c.new.ensures.sweep c.new.ensures.last c.new.ensures.clean refl refl
