-- The lines of changes that stand in order are those of the changed ids.
use Rattle.std.proofs.Common.{◌++◌, List, Option, ℕ, ap, sym, ◌∙◌}
use Rattle.std.proofs.lemmas.Result.{on_ok_weaker}
use Rattle.kc_changes.specs.Changed.{crossing_facts}
use Rattle.kc_changes.proofs.InOrder.{crossing-lines}
use Rattle.kc_changes.proofs.telling.put_entered.Goals as goal
use Rattle.kc_reply.specs.Texts.{facts_text}

pub returns-in-Some-clause-ok : goal.returns-in-Some-clause-ok
returns-in-Some-clause-ok c =
    on_ok_weaker c.put_crossings.result
    (λ e before after ids in_order. e
    ∙ ap (λ (t : List ℕ). c.args.out.now.items ++ t) (crossing-lines before after c.args.format c.in-Some.level ids c.args.changes.now in_order)
    ∙ ap (λ (k : Option ℕ). c.args.out.now.items ++ facts_text c.args.format (crossing_facts k before after ids)) (sym c.in-Some.is))
    c.put_crossings.ensures.ok
