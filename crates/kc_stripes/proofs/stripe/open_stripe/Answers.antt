-- Each turn adds the record of the next vertex. After the last one each vertex of the stripe has its record.
use Rattle.std.proofs.Common.{◌≡◌, ◌<◌, ◌≤◌, ℕ, get_or, arith}
use Rattle.std.proofs.lemmas.List.{get_or_read}
use Rattle.kc_graph.specs.declared.used.UsedEdges.{UsedEdges}
use Rattle.kc_table.specs.Log.{Opened, opened_with}
use Rattle.kc_stripes.proofs.Keeping.{filling_more}
use Rattle.kc_stripes.proofs.stripe.open_stripe.Goals as goal

pub loop-vertex-preserved : goal.loop-vertex-preserved
loop-vertex-preserved c =
    let o : Opened = opened_with c.args.words.now c.args.graph.now c.args.at.now.items in
    let v : ℕ = c.loop-vertex.vertex in
    let small : v < o.edges.size = omega (arith, c.loop-vertex-test.true, c.loop-vertex.invariant.0) in
    let r : UsedEdges = record { vertex = v; at = c.index.result.now; neighbours = c.in_ok-share_neighbours.field-0 } in
    let is : r.at ≡ get_or o.stamps v 0 = get_or_read o.stamps v r.at (omega (arith, c.requires.one_each, small)) c.index.ensures 0 in
    let old : r.at ≤ o.table.shape.base = omega (arith, is, c.requires.base v small) in (
      c.loop-vertex.invariant.0,
      rw c.in_ok-push.ensures.items (filling_more o c.args.pass.now.log c.args.number c.loop-vertex.records.items r c.loop-vertex.invariant.1 small
          c.requires.size is old c.in_ok-share_neighbours.ensures.near),
    )
