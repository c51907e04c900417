-- What stands after an item is an item.
use Rattle.std.proofs.Common.{sym, ◌∙◌}
use Rattle.kc_list.proofs.Whole.{next_member}
use Rattle.kc_list.proofs.plain.PlainOrder.after.Goals as goal

pub returns-else-next-size : goal.returns-else-next-size
returns-else-next-size c =
    rw (← c.self.view_is) (
      c.next-next.ensures,
      next_member c.self.inside.list.links.size c.args.x c.next-next.result c.self.inside.list.links.list c.next-next.ensures
          (λ e. c.if-next-size.false (e ∙ sym c.size.ensures)),
    )
