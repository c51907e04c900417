-- The vertices that were there keep their core numbers, and the others have 0, whether they are spare or not.
use Rattle.std.proofs.Common.{◌≡◌, ◌∙◌, ap, arith, subst, sym}
use Rattle.std.specs.Prelude.{slice_index}
use Rattle.kc_graph.specs.Growing.{with_vertices}
use Rattle.kc_graph.specs.SimpleGraph.{SimpleGraph}
use Rattle.kc_watch.specs.Accounts.{core_numbers_of}
use Rattle.kc_watch.specs.Layered.{LayeredGraph}
use Rattle.kc_watch.specs.Room.{AreEdgesBelow}
use Rattle.kc_lists.proofs.Results.{on_err-anyhow}
use Rattle.kc_watch.proofs.Spare.{edges-more, numbers-more, room, room-more}
use Rattle.kc_watch.proofs.roomy.RoomyKeeper.grow_to.Goals as goal

pub invariant_of-self : goal.invariant_of-self
invariant_of-self c =
    room-more c.self.inside.keeper.graph c.make_room.new.keeper.graph c.self.inside.vertices _ c.make_room.ensures.graph c.make_room.ensures.more
    c.self.invariant

pub invariant_of-self-2 : goal.invariant_of-self-2
invariant_of-self-2 c =
    let g : SimpleGraph = c.self.inside.keeper.graph in
    let size : c.self.inside.vertices ≡ c.args.self.now.graph.size = ap (λ (k : LayeredGraph). k.graph.size) c.self.view_is in
    room c.make_room.new.keeper.graph c.args.vertices c.in_ok-make_room.ensures.room
    (subst (AreEdgesBelow c.args.vertices) (sym (ap (λ (h : SimpleGraph). h.edges) c.make_room.ensures.graph))
    (edges-more c.self.inside.vertices c.args.vertices g.edges (omega (arith, size, c.requires.more)) c.self.invariant.edges))

pub returns-in_err-make_room-clause-same : goal.returns-in_err-make_room-clause-same
returns-in_err-make_room-clause-same c =
    on_err-anyhow c.from_residual.result
    (ap (with_vertices c.self.inside.vertices) c.make_room.ensures.graph ∙ ap (λ (k : LayeredGraph). k.graph) c.self.view_is)

pub returns-clause-graph : goal.returns-clause-graph
returns-clause-graph c =
    ap (with_vertices c.args.vertices) c.make_room.ensures.graph ∙ ap (λ (k : LayeredGraph). with_vertices c.args.vertices k.graph) c.self.view_is

pub returns-clause-numbers : goal.returns-clause-numbers
returns-clause-numbers c = λ v.
    let g : SimpleGraph = c.self.inside.keeper.graph in
    let size : c.self.inside.vertices ≡ c.args.self.now.graph.size = ap (λ (k : LayeredGraph). k.graph.size) c.self.view_is in
    ap (λ (h : SimpleGraph). slice_index (core_numbers_of (with_vertices c.args.vertices h)) v) c.make_room.ensures.graph
    ∙ (numbers-more c.self.inside.vertices c.args.vertices g c.self.invariant.edges (omega (arith, size, c.requires.more)) v
    ∙ ap (λ (k : LayeredGraph). slice_index (core_numbers_of k.graph) v) c.self.view_is)
