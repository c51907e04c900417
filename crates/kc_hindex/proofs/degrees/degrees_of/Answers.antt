-- The length of a vertex's row is its degree, and fits, since the row is shorter than the list of all vertices.
use Rattle.std.proofs.Common.{arith, ap, sym, ◌∙◌, ◌≡◌, ℕ, length, [], ◌++◌, ◌∷◌, List, inl, inr, get_or}
use Rattle.std.proofs.lemmas.Bool.{cases_eq}
use Rattle.std.proofs.lemmas.List.{get_or_append_left}
use Rattle.std.proofs.Math.Seq.{get_or-append_seam}
use Rattle.kc_hindex.specs.Rounds.{after_rounds}
use Rattle.kc_hindex.proofs.Rows.{row_degree, row_few}
use Rattle.kc_hindex.proofs.degrees.degrees_of.Goals as goal

pub overflow_cast-neighbours : goal.overflow_cast-neighbours
overflow_cast-neighbours c = omega (arith, row_few c.args.graph.now c.loop-v.v c.neighbours.result.now (omega arith) c.neighbours.ensures)

pub loop-v-preserved : goal.loop-v-preserved
loop-v-preserved c =
    let old : List ℕ = c.loop-v.degrees.items in
    let n : length old ≡ c.loop-v.v = c.loop-v.invariant.0 in
    let e = c.in_ok-push.ensures.items in
    let d = row_degree c.args.graph.now c.loop-v.v c.neighbours.result.now c.neighbours.ensures in (
      omega (arith, c.in_ok-push.ensures.len, n),
      λ u l. elim (cases_eq u c.loop-v.v) [
        | inl k ↦
            ap (λ (xs : List ℕ). get_or xs u 0) e ∙ ap (λ (x : ℕ). get_or (old ++ length c.neighbours.result.now ∷ []) x 0) (k ∙ sym n)
            ∙ get_or-append_seam old (length c.neighbours.result.now) [] 0 ∙ d ∙ ap (after_rounds c.args.graph.now 0) (sym k)
        | inr ne ↦
            ap (λ (xs : List ℕ). get_or xs u 0) e ∙ get_or_append_left old (length c.neighbours.result.now ∷ []) 0 u (omega arith)
            ∙ c.loop-v.invariant.1 u (omega arith)
      ],
    )
