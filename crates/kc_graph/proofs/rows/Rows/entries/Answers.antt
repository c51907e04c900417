-- The sum so far is a part of the whole, which fits.
use Rattle.std.proofs.Common.{ℕ, List, [], length, ap, arith}
use Rattle.std.proofs.lemmas.List.Sums.{sum_by_more_le}
use Rattle.kc_graph.proofs.Adding.{few_edges}
use Rattle.kc_graph.proofs.rows.Rows.entries.Goals as goal

pub overflow_add-entries : goal.overflow_add-entries
overflow_add-entries c =
    let rows : List (List ℕ) = c.args.self.now in
    let v : ℕ = c.loop-v.v in
    omega (
      arith,
      ap length c.get.ensures,
      c.loop-v.invariant,
      sum_by_more_le length rows v [] (omega arith),
      few_edges rows c.requires.adjacency c.requires.few,
    )
