-- The trail begins with b, and each turn settles what arcs lead to from one vertex more.
use Rattle.std.proofs.Common.{◌<◌, ◌+◌, ◌-◌, ℕ, List, length, get_or, ap, ◌∙◌, arith, length-append}
use Rattle.std.proofs.lemmas.Bool.{MatchBool-at_false}
use Rattle.kc_lists.specs.Lists.{member}
use Rattle.kc_order.specs.Standing.{list_after}
use Rattle.kc_topo.specs.Arcs.{arcs_after, has_arc}
use Rattle.kc_topo.specs.Searching.{Trail}
use Rattle.kc_topo.proofs.Looking.{listed-low, settled-place, trail-short}
use Rattle.kc_topo.proofs.searching.search.Goals as goal

-- with each vertex that is reached fewer are left
less-left : (n k : ℕ) → k < n → n - (k + 1) < n - k
less-left n k l = omega (arith, l)

pub push-requires-clause-within : goal.push-requires-clause-within
push-requires-clause-within c =
    omega (
      arith,
      ap (λ (t : Trail). t.size) c.requires.none,
      listed-low c.args.writer.now.table c.args.writer.now.log c.requires.keeps.legal c.args.b c.requires.before.first,
    )

pub loop-place-smaller : goal.loop-place-smaller
loop-place-smaller c =
    let short = trail-short c.loop-place.reached c.vertices.ensures.distinct c.vertices.ensures.within in
    less-left c.args.reached.now.size c.loop-place.place
    (omega (arith, short, c.loop-place-test.true, ap length c.vertices.ensures.are, c.loop-place.invariant.size))

pub loop-place-preserved : goal.loop-place-preserved
loop-place-preserved c =
    let arcs = arcs_after c.args.writer.now.table c.args.writer.now.log in
    let list = list_after c.args.writer.now.table c.args.writer.now.log in
    let old : Trail = c.loop-place.reached in
    let new : Trail = c.look.new.reached in
    let here : c.loop-place.place < length old.vertices = omega (arith, c.loop-place-test.true, ap length c.vertices.ensures.are) in
    let grows = c.in_ok-look.ensures.grows in
    record {
      size = c.in_ok-look.ensures.size ∙ c.loop-place.invariant.size;
      within = omega (arith, here, ap length grows.1, length-append old.vertices grows.0);
      trail = c.in_ok-look.ensures.trail;
      settled = settled-place arcs list c.args.a old new c.of-row.result.now c.loop-place.place here grows c.loop-place.invariant.settled
          (λ w. ap (member w) c.of-row.ensures ∙ (c.requires.keeps.rows_are _ w
          ∙ ap (λ (zs : List ℕ). has_arc arcs (get_or zs c.loop-place.place 0) w) c.vertices-in-loop-place.ensures.are))
          (MatchBool-at_false _ _ c.if-branch.false c.in_ok-look.ensures.found);
    }
