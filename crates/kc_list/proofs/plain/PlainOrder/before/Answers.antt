-- What stands before an item is an item.
use Rattle.std.proofs.Common.{sym, ◌∙◌}
use Rattle.kc_list.proofs.Whole.{prev_member}
use Rattle.kc_list.proofs.plain.PlainOrder.before.Goals as goal

pub returns-else-before-size : goal.returns-else-before-size
returns-else-before-size c =
    rw (← c.self.view_is) (
      c.prev-before.ensures,
      prev_member c.self.inside.list.links.size c.args.x c.prev-before.result c.self.inside.list.links.list c.prev-before.ensures
          (λ e. c.if-before-size.false (e ∙ sym c.size.ensures)),
    )
