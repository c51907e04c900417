-- In a sound list the labels say which of two items stands first.
use Rattle.std.proofs.Common.{ap, ◌∙◌}
use Rattle.kc_lists.specs.Lists.{member}
use Rattle.kc_list.proofs.Whole.{precedes_list}
use Rattle.kc_list.proofs.plain.PlainOrder.precedes.Goals as goal

pub returns-clause-by_list : goal.returns-clause-by_list
returns-clause-by_list c =
    let k = precedes_list c.self.inside.list.links.size c.self.inside.list.sheet.words c.self.inside.list.links.list c.args.x c.args.y c.self.inside.list.sound
    (ap (member c.args.x) (ap (λ v. v.list) c.self.view_is) ∙ c.requires.x_in) (ap (member c.args.y) (ap (λ v. v.list) c.self.view_is) ∙ c.requires.y_in)
    c.requires.differ in
    rw (← c.self.view_is) (λ t. k.0 (c.pair_below.ensures.0 t), λ l. c.pair_below.ensures.1 (k.1 l))
