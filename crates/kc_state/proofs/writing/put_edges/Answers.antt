-- The lines of the edges at a vertex go on behind those of the vertices before it.
use Rattle.std.proofs.Common.{◌∙◌, ℕ, List, arith, get_or, subst}
use Rattle.kc_lists.proofs.Counting.{member-get_or}
use Rattle.kc_lists.proofs.Results.{on_err-anyhow}
use Rattle.kc_graph.specs.Neighbours.{neighbours_of}
use Rattle.kc_graph.proofs.NeighbourLists.{neighbours_are}
use Rattle.kc_lines.specs.Pages.{PassesPart}
use Rattle.kc_state.specs.SummedPages.{HasPut}
use Rattle.kc_state.specs.Texts.{lines_to_greater}
use Rattle.kc_state.proofs.Putting.{part-next, put-next}
use Rattle.kc_state.proofs.writing.put_edges.Goals as goal

pub put_all_greater-requires-clause-others : goal.put_all_greater-requires-clause-others
put_all_greater-requires-clause-others g c = λ k d l.
    let ws : List ℕ = c.neighbours.result.now in
    omega (arith, c.neighbours.ensures.within (get_or ws k d) (member-get_or ws k d l), c.requires.one_each)

pub loop-v-preserved : goal.loop-v-preserved
loop-v-preserved g c =
    let ids : List ℕ = c.args.ids.now in
    let v : ℕ = c.loop-v.v in
    let same = neighbours_are c.args.graph.now v c.neighbours.result.now c.neighbours.ensures in
    record {
      put = put-next _ _ _ c.args.summed.now c.loop-v.summed c.put_all_greater.new.summed
          (λ (x : ℕ). lines_to_greater ids x (neighbours_of c.args.graph.now x)) v c.loop-v.invariant.put
          (subst (λ (ws : List ℕ). HasPut (g.O.Sink.taken c.loop-v.out) (g.O.Sink.taken c.put_all_greater.new.out) c.loop-v.summed
          c.put_all_greater.new.summed (lines_to_greater ids v ws)) same c.in_ok-put_all_greater.ensures.put);
      faultless = c.in_ok-put_all_greater.ensures.cause.kept ∙ c.loop-v.invariant.faultless;
    }

pub returns-in_err-put_all_greater-clause-part : goal.returns-in_err-put_all_greater-clause-part
returns-in_err-put_all_greater-clause-part g c =
    let ids : List ℕ = c.args.ids.now in
    let v : ℕ = c.loop-v.v in
    let same = neighbours_are c.args.graph.now v c.neighbours.result.now c.neighbours.ensures in
    on_err-anyhow c.from_residual.result
    (part-next _ _ _ c.args.summed.now c.loop-v.summed (λ (x : ℕ). lines_to_greater ids x (neighbours_of c.args.graph.now x)) v
    c.args.graph.now.size (omega arith) c.loop-v.invariant.put
    (subst (λ (ws : List ℕ). PassesPart (g.O.Sink.taken c.loop-v.out) (g.O.Sink.taken c.put_all_greater.new.out) c.loop-v.summed.page
    (lines_to_greater ids v ws)) same c.in_err-put_all_greater.ensures.part))
