-- The object is its members, put one after another.
use Rattle.std.proofs.Common.{◌++◌, ℕ, List, ap, ◌∙◌, sym, codes}
use Rattle.std.proofs.lemmas.Result.{on_ok_weaker}
use Rattle.kc_report.specs.Lines.{field}
use Rattle.kc_reply.specs.Json.{overruled_member, summary_end, summary_json}
use Rattle.kc_reply.proofs.Behind.{then-put}
use Rattle.kc_reply.proofs.json.put_summary.Goals as goal

pub returns-in_ok-put_field-in-Rounds-clause-ok : goal.returns-in_ok-put_field-in-Rounds-clause-ok
returns-in_ok-put_field-in-Rounds-clause-ok c =
    let rounds : List ℕ = field (codes "{\"event\":\"rounds\",\"rounds\":") c.in-Rounds.rounds in
    on_ok_weaker c.put_text.result
    (λ e. then-put c.args.out.now.items rounds (codes "}\n") _ _ c.in_ok-put_field-in-Rounds.ensures.ok e
    ∙ sym (ap (λ t. c.args.out.now.items ++ summary_json t) c.in-Rounds.is))
    c.put_text.ensures.ok

pub returns-in_ok-put_overruled-in-Batch-clause-ok : goal.returns-in_ok-put_overruled-in-Batch-clause-ok
returns-in_ok-put_overruled-in-Batch-clause-ok c =
    let out : List ℕ = c.args.out.now.items in
    let number : List ℕ = field (codes "{\"event\":\"batch\",\"batch\":") c.in-Batch.number in
    let added : List ℕ = field (codes ",\"added\":") c.in-Batch.added in
    let removed : List ℕ = field (codes ",\"removed\":") c.in-Batch.removed in
    let kept : List ℕ = field (codes ",\"kept\":") c.in-Batch.kept in
    let overruled : List ℕ = overruled_member c.in-Batch.overruled in
    let end : List ℕ = summary_end c.in-Batch.edges c.in-Batch.top in
    let two = then-put out number added _ _ c.in_ok-put_field-in-Batch.ensures.ok c.in_ok-put_field-in-Batch-2.ensures.ok in
    let three = then-put out (number ++ added) removed _ _ two c.in_ok-put_field-in-Batch-3.ensures.ok in
    let four = then-put out (number ++ added ++ removed) kept _ _ three c.in_ok-put_field-in-Batch-4.ensures.ok in
    let five = then-put out (number ++ added ++ removed ++ kept) overruled _ _ four c.in_ok-put_overruled-in-Batch.ensures.ok in
    on_ok_weaker c.put_summary_end-in-Batch.result
    (λ e. then-put out (number ++ added ++ removed ++ kept ++ overruled) end _ _ five e
    ∙ sym (ap (λ t. out ++ summary_json t) c.in-Batch.is))
    c.put_summary_end-in-Batch.ensures.ok
