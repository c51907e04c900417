-- Each row is a part from 0 to 0, which lies in an empty block and has no number.
use Rattle.std.proofs.Common.{◌≡◌, ℕ, [], List, ap₂, sym, subst, replicate, arith, ap, ◌∙◌}
use Rattle.kc_graph.specs.Blocks.{LieFrom, entries_of_each}
use Rattle.kc_graph.proofs.Lying.{lie-none, entries-none}
use Rattle.kc_graph.proofs.rows.Rows.empty.Goals as goal

pub invariant_of-result : goal.invariant_of-result
invariant_of-result c =
    subst (λ (t : List ℕ). LieFrom 0 t c.loop.rows.items) (sym c.new-block.ensures.items)
    (subst (LieFrom 0 []) (sym c.loop.invariant) (lie-none c.loop.counter))

pub returns : goal.returns
returns c =
    let n : c.loop.counter ≡ c.args.count = omega arith in
    ap₂ entries_of_each c.new-block.ensures.items c.loop.invariant ∙ entries-none c.loop.counter ∙ ap (λ k. replicate k []) n
