-- A list of its own may stand in place of each row.
use Rattle.std.proofs.Common.{ℕ, List, set, ap, ◌∙◌}
use Rattle.kc_graph.specs.declared.row.Row.TheVariants.{Own}
use Rattle.kc_graph.proofs.Lying.{lie-own, entries-set}
use Rattle.kc_graph.proofs.rows.Rows.put.Goals as goal

pub invariant_of-self : goal.invariant_of-self
invariant_of-self c = lie-own 0 c.self.inside.block.items c.self.inside.rows.items c.args.v c.args.list c.self.invariant

pub returns : goal.returns
returns c =
    entries-set c.self.inside.block.items c.self.inside.rows.items c.args.v (Own c.args.list)
    ∙ ap (λ (t : List (List ℕ)). set t c.args.v c.args.list.items) c.self.view_is
