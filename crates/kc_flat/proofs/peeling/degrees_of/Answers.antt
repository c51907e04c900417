-- The row of the next vertex is as long as it has neighbours, which are fewer than the vertices, and its length is pushed.
use Rattle.std.proofs.Common.{arith, ap, sym, ◌∙◌, ◌≡◌, ℕ, length, [], ◌++◌, ◌∷◌, List, inl, inr}
use Rattle.std.proofs.lemmas.Bool.{cases_eq}
use Rattle.std.proofs.lemmas.List.{get_or_append_left}
use Rattle.std.proofs.Math.Seq.{get_or-append_seam}
use Rattle.kc_graph.specs.Peeling.{at, remaining}
use Rattle.kc_graph.proofs.PeelingLemmas.{degree_is, remaining-lt}
use Rattle.kc_flat.proofs.peeling.degrees_of.Goals as goal

pub overflow_cast-neighbours : goal.overflow_cast-neighbours
overflow_cast-neighbours c =
    omega (
      arith,
      degree_is c.args.graph.now c.loop-v.v c.neighbours.result.now c.neighbours.ensures,
      remaining-lt c.args.graph.now [] c.loop-v.v (omega arith),
    )

pub loop-v-preserved : goal.loop-v-preserved
loop-v-preserved c =
    let old : List ℕ = c.loop-v.degrees.items in
    let n : length old ≡ c.loop-v.v = c.loop-v.invariant.0 in
    let e = c.in_ok-push.ensures.items in
    let d = degree_is c.args.graph.now c.loop-v.v c.neighbours.result.now c.neighbours.ensures in (
      omega (arith, c.in_ok-push.ensures.len, n),
      λ u l. elim (cases_eq u c.loop-v.v) [
        | inl k ↦
            ap (λ (xs : List ℕ). at xs u) e ∙ ap (at (old ++ length c.neighbours.result.now ∷ [])) (k ∙ sym n)
            ∙ get_or-append_seam old (length c.neighbours.result.now) [] 0 ∙ d ∙ ap (remaining c.args.graph.now []) (sym k)
        | inr ne ↦
            ap (λ (xs : List ℕ). at xs u) e ∙ get_or_append_left old (length c.neighbours.result.now ∷ []) 0 u (omega arith)
            ∙ c.loop-v.invariant.1 u (omega arith)
      ],
    )
