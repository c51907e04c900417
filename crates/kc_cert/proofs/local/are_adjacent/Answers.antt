-- The list of `u` has just its neighbours: `v` is one where it was found, and is none where no place has it.
use Rattle.std.proofs.Common.{◌≡◌, ◌≤◌, ℕ, List, true, length, sym, ◌∙◌, ap, arith}
use Rattle.std.proofs.lemmas.Bool.{false_from_ne_true}
use Rattle.kc_lists.specs.Lists.{member}
use Rattle.kc_lists.proofs.Counting.{member-get_or}
use Rattle.kc_graph.specs.SimpleGraph.{adjacent}
use Rattle.kc_graph.specs.Neighbours.{neighbours_of}
use Rattle.kc_graph.specs.Lawful.{Ranked}
use Rattle.kc_graph.proofs.NeighbourLists.{neighbours_within}
use Rattle.kc_cert.proofs.Looking.{not_adjacent}
use Rattle.kc_cert.proofs.local.are_adjacent.Goals as goal

pub returns-then-neighbour-v : goal.returns-then-neighbour-v
returns-then-neighbour-v g c =
    let s : Ranked = g.S.State.state c.args.state.now in
    let ws : List ℕ = neighbours_of s.graph c.args.u in
    let there : member c.args.v ws ≡ true =
    ap (λ k. member k ws) (sym c.if-neighbour-v.true ∙ c.neighbour.ensures)
    ∙ member-get_or ws c.loop-i.i 0 (omega (arith, c.loop-i-test.true, c.degree-i-end.ensures)) in
    sym (neighbours_within s.graph c.args.u c.args.v there).1

pub returns : goal.returns
returns g c =
    let s : Ranked = g.S.State.state c.args.state.now in
    let all : length (neighbours_of s.graph c.args.u) ≤ c.loop-i.i = omega (arith, c.loop-i-test.false, c.degree-i-end.ensures) in
    sym (false_from_ne_true (adjacent s.graph c.args.u c.args.v) (not_adjacent s.graph c.args.u c.args.v c.loop-i.i c.requires.second all c.loop-i.invariant))
