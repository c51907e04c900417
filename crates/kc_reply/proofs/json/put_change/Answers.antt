-- The object is its members, put one after another.
use Rattle.std.proofs.Common.{◌++◌, ℕ, List, codes}
use Rattle.std.proofs.lemmas.Result.{on_ok_weaker}
use Rattle.kc_report.specs.Lines.{field}
use Rattle.kc_reply.specs.Json.{number_or_null}
use Rattle.kc_reply.proofs.Behind.{then-put}
use Rattle.kc_reply.proofs.json.put_change.Goals as goal

pub returns-clause-ok : goal.returns-clause-ok
returns-clause-ok c =
    let out : List ℕ = c.args.out.now.items in
    let id : List ℕ = field (codes "{\"event\":\"change\",\"id\":") c.args.id in
    let old : List ℕ = codes ",\"old\":" ++ number_or_null c.args.before in
    let new : List ℕ = codes ",\"new\":" ++ number_or_null c.args.now in
    on_ok_weaker c.put_text.result
    (then-put out (id ++ old ++ new) (codes "}\n") _ _
    (then-put out (id ++ old) new _ _
    (then-put out id old _ _ c.in_ok-put_field.ensures.ok c.in_ok-put_nullable.ensures.ok) c.in_ok-put_nullable-2.ensures.ok))
    c.put_text.ensures.ok
