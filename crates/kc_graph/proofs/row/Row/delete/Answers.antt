-- A list of its own stays one.
use Rattle.std.proofs.Common.{refl, sym, subst}
use Rattle.kc_graph.specs.declared.row.Row.{Row}
use Rattle.kc_graph.specs.declared.row.Row.TheVariants.{Own}
use Rattle.kc_graph.specs.Blocks.{IsShorter}
use Rattle.kc_graph.proofs.row.Row.delete.Goals as goal

pub returns-in-Own-clause-place : goal.returns-in-Own-clause-place
returns-in-Own-clause-place c =
    subst (λ (r : Row). IsShorter c.args.block.now c.args.block.now r (Own c.delete_from.new.row)) (sym c.in-Own.is) ((c.delete_from.new.row, refl), refl)
