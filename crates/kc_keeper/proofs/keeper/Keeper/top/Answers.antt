-- The journal's top is the greatest core number.
use Rattle.std.proofs.Common.{◌≡◌, subst}
use Rattle.kc_graph.specs.Lawful.{Ranked}
use Rattle.kc_levels.specs.Levels.{IsTop}
use Rattle.kc_levels.proofs.Topping.{top-is}
use Rattle.kc_keeper.proofs.keeper.Keeper.top.Goals as goal

pub returns : goal.returns
returns c =
    top-is c.args.self.now.core c.top.result (subst (λ (s : Ranked). IsTop s.core c.top.result) c.self.view_is c.top.ensures)
