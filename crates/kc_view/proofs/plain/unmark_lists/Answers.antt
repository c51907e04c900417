-- The next list is of a vertex that has a mark, and to clear it changes the mark of that vertex alone.
use Rattle.std.proofs.Common.{◌<◌, ℕ, false, length, get_or, sym, subst, arith}
use Rattle.kc_graph.specs.declared.used.UsedEdges.{UsedEdges}
use Rattle.kc_view.proofs.Lookups.{list_answers, cleared-next}
use Rattle.kc_view.proofs.plain.unmark_lists.Goals as goal

pub loop-list-preserved : goal.loop-list-preserved
loop-list-preserved c =
    let e : UsedEdges = c.list-item.result in
    let within : e.vertex < length c.args.is_listed.now =
    subst (λ (x : UsedEdges). x.vertex < length c.args.is_listed.now) (sym c.list-item.is)
    (c.requires c.loop-list.list-index e c.loop-list-test.true) in
    cleared-next list_answers false c.loop-list.is_listed (λ (w : ℕ). get_or c.args.is_listed.now w false) c.args.edges.now c.loop-list.list-index e
    c.loop-list-test.true c.list-item.is (omega arith) c.loop-list.invariant
