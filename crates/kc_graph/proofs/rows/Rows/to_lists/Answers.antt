-- The rows of one part more are lists.
use Rattle.std.proofs.Common.{◌≤◌, ◌+◌, ◌∙◌, ◌++◌, ℕ, List, ap₂, arith}
use Rattle.kc_graph.proofs.PartsOfRows.{part-behind}
use Rattle.kc_graph.proofs.rows.Rows.to_lists.Goals as goal

pub loop-from-preserved : goal.loop-from-preserved
loop-from-preserved c =
    let least = c.min.ensures in
    let within : c.loop-from.from + c.min.result ≤ c.count-count.result = omega (arith, least, c.loop-from.invariant.1) in (
      c.in_ok-append_to.ensures
          ∙ ap₂ (λ (t r : List (List ℕ)). t ++ r) c.loop-from.invariant.0 c.in_ok-copy_part.ensures
          ∙ part-behind c.args.self.now c.loop-from.from (c.loop-from.from + c.min.result) (omega arith),
      within,
    )
