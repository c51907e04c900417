-- The object is its members, put one after another.
use Rattle.std.proofs.Common.{◌++◌, ℕ, List, ap, ◌∙◌, codes}
use Rattle.std.proofs.lemmas.Result.{on_ok_weaker}
use Rattle.kc_report.specs.Lines.{field}
use Rattle.kc_text.specs.Kinds.{name_of, number_of}
use Rattle.kc_reply.proofs.Behind.{then-put}
use Rattle.kc_reply.proofs.json.put_refused.Goals as goal

pub returns-clause-ok : goal.returns-clause-ok
returns-clause-ok c =
    let out : List ℕ = c.args.out.now.items in
    let batch : List ℕ = field (codes "{\"event\":\"refused\",\"batch\":") c.args.batch in
    let line : List ℕ = field (codes ",\"line\":") c.args.refusal.line in
    let kind : List ℕ = field (codes ",\"kind\":") (number_of c.args.refusal.kind) in
    let key : List ℕ = codes ",\"name\":\"" in
    let name : List ℕ = name_of c.args.refusal.kind in
    let two = then-put out batch line _ _ c.in_ok-put_field.ensures.ok c.in_ok-put_field-2.ensures.ok in
    let number = c.in_ok-put_field-3.ensures.ok ∙ ap (λ (n : ℕ). c.put_field-2.new.out.items ++ field (codes ",\"kind\":") n) c.number.ensures in
    let three = then-put out (batch ++ line) kind _ _ two number in
    let four = then-put out (batch ++ line ++ kind) key _ _ three c.in_ok-put_text.ensures.ok in
    let named = c.in_ok-put_text-2.ensures.ok ∙ ap (λ (t : List ℕ). c.put_text.new.out.items ++ t) c.name.ensures in
    let five = then-put out (batch ++ line ++ kind ++ key) name _ _ four named in
    on_ok_weaker c.put_text-3.result (then-put out (batch ++ line ++ kind ++ key ++ name) (codes "\"}\n") _ _ five) c.put_text-3.ensures.ok
