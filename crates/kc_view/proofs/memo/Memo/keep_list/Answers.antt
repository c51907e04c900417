-- The list that is pushed stands at the place that its vertex's mark tells.
use Rattle.std.proofs.Common.{arith, ap, length}
use Rattle.kc_graph.specs.declared.used.UsedEdges.{UsedEdges}
use Rattle.kc_view.proofs.Marked.{few-with-list, marked-list}
use Rattle.kc_view.proofs.memo.Memo.keep_list.Goals as goal

pub overflow_cast-len : goal.overflow_cast-len
overflow_cast-len c =
    let few = few-with-list _ c.args.self.now c.self.inside.listed.items c.self.inside.placed.items c.args.list c.self.view_is c.self.invariant
    c.requires.vertex c.requires.once c.requires.is_list in
    omega (arith, few, c.self.invariant.few, ap (length {A = UsedEdges}) c.in_ok-push.ensures.items, c.len.ensures, c.push.new.self.ok.0)

pub invariant_of-self-2 : goal.invariant_of-self-2
invariant_of-self-2 c =
    marked-list _ c.args.self.now c.self.inside.listed.items c.self.inside.placed.items c.args.list c.len.result c.push.new.self.items c.self.view_is
    c.self.invariant c.requires.vertex c.requires.once c.requires.is_list c.in_ok-push.ensures.items (omega (arith, c.len.ensures, c.push.new.self.ok.0))
