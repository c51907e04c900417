-- After the update a count over neighbours is that over the kept ones, and one more for the other end of an edge that comes.
use Rattle.std.proofs.Common.{◌≡◌, ◌+◌, ◌&&◌, ℕ, Bool, Some, get_or, leb, sym, ◌∙◌, arith}
use Rattle.std.specs.Prelude.{count_by}
use Rattle.kc_lists.specs.Lists.{below}
use Rattle.kc_lists.proofs.Counting.{one_if}
use Rattle.kc_graph.specs.SimpleGraph.{adjacent}
use Rattle.kc_graph.specs.Neighbours.{neighbours_of}
use Rattle.kc_graph.specs.Lawful.{Ranked}
use Rattle.kc_graph.specs.Plans.{moved_by, updated}
use Rattle.kc_cert.specs.Stands.{keeps, other_end, stands_after}
use Rattle.kc_cert.proofs.Tallying.{count-updated, gained, gained-some, gained-removed, gained-none}
use Rattle.kc_cert.proofs.tally.tally_of.Given.{Over}
use Rattle.kc_cert.proofs.tally.tally_of.Goals.{After-other_end}
use Rattle.kc_cert.proofs.tally.tally_of.Goals as goal

-- the state that is to be updated
abbrev before : (g : Over) → After-other_end g → Ranked
before g c = g.S.State.state c.args.state.now

-- whether a vertex stands after `z` once the moves are made
abbrev is_later : (g : Over) → After-other_end g → ℕ → Bool
is_later g c = stands_after c.args.arrangement.now.moves.now (before g c) c.args.z.vertex

-- whether a vertex has no lower core number than `z` once the moves are made
abbrev is_high : (g : Over) → After-other_end g → ℕ → Bool
is_high g c y = leb c.args.z.number (get_or (moved_by c.args.arrangement.now.moves.now (before g c)).core y 0)

-- a count over the neighbours after the update is that over the kept ones and what the update's edge brings
counted : (g : Over) (c : After-other_end g) (q : ℕ → Bool) (kept more : ℕ)
    → kept ≡ count_by (λ y. keeps c.args.update c.args.z.vertex y && q y) (neighbours_of (before g c).graph c.args.z.vertex)
    → gained c.args.update c.args.z.vertex q ≡ more
    → kept + more ≡ count_by (λ y. adjacent (updated c.args.update (before g c).graph) c.args.z.vertex y && q y) (below (before g c).graph.size)
counted g c q kept more is brings =
    omega (arith, is, brings, count-updated c.args.update (before g c).graph c.args.z.vertex q c.requires.ends c.requires.applied)

pub returns-in-Some : goal.returns-in-Some
returns-in-Some g c =
    let at = (goal.at.returns-in-Some g c).After-other_end in
    let other : other_end c.args.update c.args.z.vertex ≡ Some c.in-Some.y = sym c.other_end.ensures ∙ c.in-Some.is in
    let brings : (q : ℕ → Bool) → gained c.args.update c.args.z.vertex q ≡ one_if (q c.in-Some.y) =
    λ q. gained-some c.args.update c.args.z.vertex c.in-Some.y q c.if-update.true other in
    record {
      later = c.with_neighbour.ensures.later ∙ counted g at (is_later g at) _ _ c.tally_kept-tally.ensures.later (brings (is_later g at));
      high = c.with_neighbour.ensures.high ∙ counted g at (is_high g at) _ _ c.tally_kept-tally.ensures.high (brings (is_high g at));
    }

pub returns-in_default : goal.returns-in_default
returns-in_default g c =
    let at = (goal.at.returns-in_default g c).After-other_end in
    let none : (q : ℕ → Bool) → gained c.args.update c.args.z.vertex q ≡ 0 =
    λ q. gained-removed c.args.update c.args.z.vertex q c.if-update.false in
    record {
      later = omega (arith, counted g at (is_later g at) _ 0 c.tally_kept-tally.ensures.later (none (is_later g at)));
      high = omega (arith, counted g at (is_high g at) _ 0 c.tally_kept-tally.ensures.high (none (is_high g at)));
    }

pub returns-in_default-2 : goal.returns-in_default-2
returns-in_default-2 g c =
    let at = (goal.at.returns-in_default-2 g c).After-other_end in
    let none : (q : ℕ → Bool) → gained c.args.update c.args.z.vertex q ≡ 0 =
    λ q. gained-none c.args.update c.args.z.vertex q (sym c.other_end.ensures ∙ c.in_default.is) in
    record {
      later = omega (arith, counted g at (is_later g at) _ 0 c.tally_kept-tally.ensures.later (none (is_later g at)));
      high = omega (arith, counted g at (is_high g at) _ 0 c.tally_kept-tally.ensures.high (none (is_high g at)));
    }
