-- A member stands at one of the places that were looked at.
use Rattle.std.proofs.Common.{refl, ◌∙◌, subst, arith}
use Rattle.kc_lists.proofs.Counting.{Contains-from_member}
use Rattle.kc_cert.specs.Local.{IsOfLevel}
use Rattle.kc_cert.proofs.fitting.are_of_level.Goals as goal
use Rattle.kc_lists.proofs.Shared.{get_or-any}

pub returns : goal.returns
returns g c = (
  λ _. λ x m.
      let (k, l, e) = Contains-from_member c.args.vertices.now x m in
      subst (IsOfLevel (g.S.State.state c.args.state.now) c.args.level) (get_or-any c.args.vertices.now k 0 x l ∙ e) (c.loop-x.invariant k (omega (arith, l))),
  λ _. refl,
)
