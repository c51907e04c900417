-- The object is its list between its beginning and its end.
use Rattle.std.proofs.Common.{◌++◌, ℕ, List, codes}
use Rattle.std.proofs.lemmas.Result.{on_ok_weaker}
use Rattle.kc_reply.specs.Json.{list_json}
use Rattle.kc_reply.proofs.Behind.{then-put}
use Rattle.kc_reply.proofs.json.put_sizes.Goals as goal

pub returns-clause-ok : goal.returns-clause-ok
returns-clause-ok c =
    let out : List ℕ = c.args.out.now.items in
    let key : List ℕ = codes "{\"event\":\"sizes\",\"sizes\":[" in
    let sizes : List ℕ = list_json c.args.sizes.now in
    let two = then-put out key sizes _ _ c.in_ok-put_text.ensures.ok c.in_ok-put_list.ensures.ok in
    on_ok_weaker c.put_text-2.result (then-put out (key ++ sizes) (codes "]}\n") _ _ two) c.put_text-2.ensures.ok
