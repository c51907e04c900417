-- The object is its members, put one after another.
use Rattle.std.proofs.Common.{◌++◌, ℕ, List, codes}
use Rattle.std.proofs.lemmas.Result.{on_ok_weaker}
use Rattle.kc_report.specs.Lines.{field}
use Rattle.kc_reply.specs.Json.{numbers_json}
use Rattle.kc_reply.proofs.Behind.{then-put}
use Rattle.kc_reply.proofs.json.put_members.Goals as goal

pub returns-clause-ok : goal.returns-clause-ok
returns-clause-ok c =
    let out : List ℕ = c.args.out.now.items in
    let level : List ℕ = field (codes "{\"event\":\"members\",\"core\":") c.args.level in
    let key : List ℕ = codes ",\"ids\":[" in
    let ids : List ℕ = numbers_json c.args.ids.now in
    let two = then-put out level key _ _ c.in_ok-put_field.ensures.ok c.in_ok-put_text.ensures.ok in
    let three = then-put out (level ++ key) ids _ _ two c.in_ok-put_numbers.ensures.ok in
    on_ok_weaker c.put_text-2.result (then-put out (level ++ key ++ ids) (codes "]}\n") _ _ three) c.put_text-2.ensures.ok
