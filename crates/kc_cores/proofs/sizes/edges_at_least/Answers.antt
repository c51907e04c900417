-- The lesser core number of an edge is a core number.
use Rattle.std.proofs.Common.{◌≡◌, ◌<◌, ◌∙◌, ℕ, List, arith, get_or, length, map, sym, subst}
use Rattle.std.specs.Prelude.{All}
use Rattle.std.proofs.lemmas.List.Elements.{All-map}
use Rattle.kc_cores.specs.Sizes.{lesser_number}
use Rattle.kc_cores.proofs.sizes.edges_at_least.Goals as goal

-- where each core number is below a bound, so is the lesser one of each edge
lesser-below : (core : List ℕ) (n levels : ℕ) (es : List (ℕ × ℕ)) → length core ≡ n → All (λ k. k < levels) core
    → All (λ (e : ℕ × ℕ). (e.0 < e.1) × (e.1 < n)) es → All (λ k. k < levels) (map (lesser_number core) es)
lesser-below core n levels es size low within =
    All-map (λ k. k < levels) (lesser_number core) es
    (λ i d l. let e = within i d l in omega (arith, low (get_or es i d).0 0 (omega (arith, e)), e))

pub counts_of-requires : goal.counts_of-requires
counts_of-requires c =
    subst (λ (xs : List ℕ). All (λ k. k < c.args.levels) xs) (sym (c.deref-2.ensures.value ∙ c.in_ok-numbers.ensures))
    (lesser-below c.args.core.now c.args.graph.now.size c.args.levels c.deref.result.now c.requires.one_each c.requires.within
    (subst (λ (es : List (ℕ × ℕ)). All (λ (e : ℕ × ℕ). (e.0 < e.1) × (e.1 < c.args.graph.now.size)) es) (sym c.deref.ensures.value)
    c.in_ok-edges.ensures.within))
