-- The lines of changes that stand in order are those of the changed ids.
use Rattle.std.proofs.Common.{◌++◌, List, ℕ, ap, sym, ◌∙◌}
use Rattle.std.proofs.lemmas.Result.{on_ok_weaker}
use Rattle.kc_changes.specs.Changed.{change_facts}
use Rattle.kc_changes.specs.declared.show.Show.{Show}
use Rattle.kc_changes.proofs.InOrder.{change-lines}
use Rattle.kc_changes.proofs.telling.put_shown.Goals as goal
use Rattle.kc_reply.specs.Texts.{facts_text}

pub returns-in-Changes-clause-ok : goal.returns-in-Changes-clause-ok
returns-in-Changes-clause-ok c =
    on_ok_weaker c.put_each_change.result
    (λ e before after ids in_order. e
    ∙ ap (λ (t : List ℕ). c.args.out.now.items ++ t) (change-lines before after c.args.format ids c.args.changes.now in_order)
    ∙ ap (λ (s : Show). c.args.out.now.items ++ facts_text c.args.format (change_facts s before after ids)) (sym c.in-Changes.is))
    c.put_each_change.ensures.ok
