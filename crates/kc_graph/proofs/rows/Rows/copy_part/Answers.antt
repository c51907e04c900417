-- One row more is copied.
use Rattle.std.proofs.Common.{◌∙◌, [], ◌∷◌, ◌++◌, ℕ, List, ap₂, sym, arith}
use Rattle.kc_graph.proofs.PartsOfRows.{part-more}
use Rattle.kc_graph.proofs.rows.Rows.copy_part.Goals as goal

pub loop-v-preserved : goal.loop-v-preserved
loop-v-preserved c =
    c.in_ok-push.ensures
    ∙ ap₂ (λ (t : List (List ℕ)) (r : List ℕ). t ++ r ∷ []) c.loop-v.invariant c.get.ensures
    ∙ sym (part-more c.args.self.now c.args.from c.loop-v.v (omega (arith, c.loop-v.auto.v)) (omega (arith, c.loop-v-test.true, c.requires.within)))
