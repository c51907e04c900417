-- The vertex of the next list has a mark, which is set to 0, and every other mark stays.
use Rattle.std.proofs.Common.{◌<◌, ℕ, length, get_or, sym, subst, arith}
use Rattle.kc_graph.specs.declared.used.UsedEdges.{UsedEdges}
use Rattle.kc_view.proofs.Lookups.{list_answers, cleared-next}
use Rattle.kc_view.proofs.scratch.unmark_lists.Goals as goal

pub loop-list-preserved : goal.loop-list-preserved
loop-list-preserved c =
    let e : UsedEdges = c.list-item.result in
    let within : e.vertex < length c.args.marks.now =
    subst (λ (x : UsedEdges). x.vertex < length c.args.marks.now) (sym c.list-item.is)
    (c.requires c.loop-list.list-index e c.loop-list-test.true) in
    cleared-next list_answers 0 c.loop-list.marks (λ (w : ℕ). get_or c.args.marks.now w 0) c.args.edges.now c.loop-list.list-index e
    c.loop-list-test.true c.list-item.is (omega arith) c.loop-list.invariant
