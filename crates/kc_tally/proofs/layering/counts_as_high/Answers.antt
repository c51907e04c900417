-- The neighbours that are as high are counted in their list, which is shorter than the list of all vertices; the count is pushed.
use Rattle.std.proofs.Common.{arith, ap, sym, ◌∙◌, ◌≡◌, ℕ, length, [], ◌++◌, ◌∷◌, List, inl, inr, leb}
use Rattle.std.proofs.lemmas.Bool.{cases_eq}
use Rattle.std.proofs.lemmas.List.{get_or_append_left}
use Rattle.std.proofs.Math.Seq.{get_or-append_seam}
use Rattle.kc_lists.proofs.Counting.{count-le-length}
use Rattle.kc_graph.specs.Peeling.{as_high, at}
use Rattle.kc_graph.proofs.NeighbourLists.{row_within}
use Rattle.kc_graph.proofs.PeelingLemmas.{degree_is, remaining-lt}
use Rattle.kc_tally.proofs.TakingLayers.{neighbours-counted}
use Rattle.kc_tally.proofs.layering.counts_as_high.Goals as goal

pub at_least-count-requires : goal.at_least-count-requires
at_least-count-requires c = λ k d l. omega (arith, row_within c.args.graph.now c.loop-v.v c.neighbours.result.now c.neighbours.ensures k d l, c.requires)

pub overflow_cast-count : goal.overflow_cast-count
overflow_cast-count c =
    let core : List ℕ = c.args.core.now in
    omega (
      arith,
      c.at_least-count.ensures,
      count-le-length (λ w. leb (at core c.loop-v.v) (at core w)) c.neighbours.result.now,
      degree_is c.args.graph.now c.loop-v.v c.neighbours.result.now c.neighbours.ensures,
      remaining-lt c.args.graph.now [] c.loop-v.v (omega arith),
    )

pub loop-v-preserved : goal.loop-v-preserved
loop-v-preserved c =
    let g = c.args.graph.now in
    let core : List ℕ = c.args.core.now in
    let v : ℕ = c.loop-v.v in
    let old : List ℕ = c.loop-v.left.items in
    let n : length old ≡ v = c.loop-v.invariant.0 in
    let e = c.in_ok-push.ensures.items in
    let d = c.at_least-count.ensures ∙ neighbours-counted g v c.neighbours.result.now (λ w. leb (at core v) (at core w)) c.neighbours.ensures in (
      omega (arith, c.in_ok-push.ensures.len, n),
      λ u l. elim (cases_eq u v) [
        | inl k ↦
            ap (λ (xs : List ℕ). at xs u) e ∙ ap (at (old ++ c.at_least-count.result ∷ [])) (k ∙ sym n)
            ∙ get_or-append_seam old c.at_least-count.result [] 0 ∙ d ∙ ap (λ x. as_high g core (at core x) x) (sym k)
        | inr ne ↦
            ap (λ (xs : List ℕ). at xs u) e ∙ get_or_append_left old (c.at_least-count.result ∷ []) 0 u (omega arith)
            ∙ c.loop-v.invariant.1 u (omega arith)
      ],
    )
