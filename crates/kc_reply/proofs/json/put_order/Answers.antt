-- The object is its members, put one after another.
use Rattle.std.proofs.Common.{◌++◌, ℕ, List, ap, ◌∙◌, codes}
use Rattle.std.proofs.lemmas.Result.{on_ok_weaker}
use Rattle.kc_report.specs.Lines.{field}
use Rattle.kc_reply.specs.Json.{standing_json}
use Rattle.kc_reply.proofs.Behind.{then-put}
use Rattle.kc_reply.proofs.json.put_order.Goals as goal

pub returns-clause-ok : goal.returns-clause-ok
returns-clause-ok c =
    let out : List ℕ = c.args.out.now.items in
    let first : List ℕ = field (codes "{\"event\":\"order\",\"first\":") c.args.first in
    let second : List ℕ = field (codes ",\"second\":") c.args.second in
    let standing : List ℕ = standing_json c.args.standing in
    let key : List ℕ = codes ",\"order\":" in
    let ids = then-put out first second _ _ c.in_ok-put_field.ensures.ok c.in_ok-put_field-2.ensures.ok in
    let value = c.in_ok-put_text-2.ensures.ok ∙ ap (λ (t : List ℕ). c.put_text.new.out.items ++ t) c.standing_value.ensures in
    let member = then-put c.put_field-2.new.out.items key standing _ _ c.in_ok-put_text.ensures.ok value in
    on_ok_weaker c.put_text-3.result
    (then-put out (first ++ second ++ (key ++ standing)) (codes "}\n") _ _ (then-put out (first ++ second) (key ++ standing) _ _ ids member))
    c.put_text-3.ensures.ok
