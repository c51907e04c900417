-- A vertex that is drawn is above all on the list and is not `w`; one that is left out only raises the bound.
use Rattle.std.proofs.Common.{ℕ, ◌+◌, sym, subst}
use Rattle.std.specs.declared.vec.Vec.{Vec}
use Rattle.std.specs.declared.alloc.Global.{Global}
use Rattle.kc_view.specs.Lists.{IsListOf}
use Rattle.kc_plans_tests.proofs.Looking.{IsListOf-wider, IsListOf-push}
use Rattle.kc_plans_tests.proofs.draws.Draws.list.Goals as goal
use Rattle.kc_plans_tests.proofs.draws.Draws.list.Goals.{then-y-w+then-side+in_ok-push, else-y-w}

pub loop-y-preserved : goal.loop-y-preserved
loop-y-preserved c = elim c.if-y-w.branch [
  | then-y-w+then-side+in_ok-push w ↦
      let grown : IsListOf (c.loop-y.y + 1) c.args.w w.push.new.self.items =
      rw w.in_ok-push.ensures.items (IsListOf-push c.loop-y.y c.args.w c.loop-y.list.items c.loop-y.invariant w.if-y-w.true) in
      subst (λ (v : Vec ℕ Global). IsListOf (c.loop-y.y + 1) c.args.w v.items) (sym w.list-is) grown
  | else-y-w w ↦
      subst (λ (v : Vec ℕ Global). IsListOf (c.loop-y.y + 1) c.args.w v.items) (sym w.list-is)
      (IsListOf-wider c.loop-y.y c.args.w c.loop-y.list.items c.loop-y.invariant)
]
