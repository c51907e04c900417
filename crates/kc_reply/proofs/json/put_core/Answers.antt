-- The object is its members, put one after another.
use Rattle.std.proofs.Common.{◌++◌, ℕ, List, codes}
use Rattle.std.proofs.lemmas.Result.{on_ok_weaker}
use Rattle.kc_report.specs.Lines.{field}
use Rattle.kc_reply.specs.Json.{number_or_null}
use Rattle.kc_reply.proofs.Behind.{then-put}
use Rattle.kc_reply.proofs.json.put_core.Goals as goal

pub returns-clause-ok : goal.returns-clause-ok
returns-clause-ok c =
    let out : List ℕ = c.args.out.now.items in
    let id : List ℕ = field (codes "{\"event\":\"core\",\"id\":") c.args.id in
    let core : List ℕ = codes ",\"core\":" ++ number_or_null c.args.core in
    on_ok_weaker c.put_text.result
    (then-put out (id ++ core) (codes "}\n") _ _ (then-put out id core _ _ c.in_ok-put_field.ensures.ok c.in_ok-put_nullable.ensures.ok))
    c.put_text.ensures.ok
