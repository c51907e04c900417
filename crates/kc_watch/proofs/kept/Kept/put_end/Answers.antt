-- The line is put, and then what stands behind it.
use Rattle.std.proofs.Common.{◌++◌, ℕ, List, ap, ◌∙◌, append_assoc}
use Rattle.std.proofs.lemmas.Result.{on_ok_weaker}
use Rattle.kc_changes.specs.Changed.{facts_behind}
use Rattle.kc_reply.specs.Facts as fact
use Rattle.kc_reply.specs.Texts.{fact_text, facts_text}
use Rattle.kc_watch.specs.Accounts.{core_number_in}
use Rattle.kc_watch.proofs.kept.Kept.put_end.Goals as goal

pub returns-clause-ok : goal.returns-clause-ok
returns-clause-ok c =
    let options = c.args.options in
    on_ok_weaker c.put_behind.result
    (λ e before after h.
    let behind : List ℕ = facts_text options.format (facts_behind options.show options.enter (core_number_in before) (core_number_in after) after.ids) in
    e before after h ∙ ap (λ (t : List ℕ). t ++ behind) c.in_ok-put_reply_line.ensures.ok
    ∙ append_assoc c.args.out.now.items (fact_text options.format (fact.Summary c.args.end.now.line)) behind)
    c.put_behind.ensures.ok
