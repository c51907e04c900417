-- The view keeps nothing then.
use Rattle.kc_stripes.proofs.Loosening.{loose_none}
use Rattle.kc_stripes.proofs.loose.LooseView.used.Goals as goal

pub invariant_of-self : goal.invariant_of-self
invariant_of-self g c =
    let inv = c.self.invariant in
    rw c.hand_out.ensures.emptied (
      inv.0,
      inv.1,
      loose_none g.K.Name.opened g.S.Moment.log c.self.inside.pass.log
          c.self.inside.memo.size _ _ inv.2.size inv.2.begins,
    )
