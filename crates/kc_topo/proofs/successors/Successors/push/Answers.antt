-- One row is longer by one.
use Rattle.std.proofs.Common.{◌≡◌, ◌<◌, ◌++◌, ℕ, List, Vec, Global, [], ◌∷◌, length, set, sym, ap, ◌∙◌, arith}
use Rattle.std.proofs.lemmas.List.{length-map}
use Rattle.kc_lists.proofs.Results.{on_err-anyhow}
use Rattle.kc_graph.specs.Rows.{lists, row}
use Rattle.kc_graph.proofs.Buckets.{lists-set, row-at, set-row}
use Rattle.kc_topo.proofs.successors.Successors.push.Goals as goal

pub returns-in_err-push-clause-err : goal.returns-in_err-push-clause-err
returns-in_err-push-clause-err c =
    let rows : List (Vec ℕ Global) = c.self.inside.rows.items in
    let r : Vec ℕ Global = c.index_mut-row.result.now in
    let low : c.args.v < length rows = omega (arith, c.requires, ap length c.self.view_is, length-map rows (λ (z : Vec ℕ Global). z.items)) in
    let is : row (lists rows) c.args.v ≡ r.items = row-at rows c.args.v r low ∙ ap (λ (z : Vec ℕ Global). z.items) (sym c.index_mut-row.ensures.value) in
    on_err-anyhow c.from_residual.result (lists-set rows c.args.v c.push.new.self ∙ (ap (set (lists rows) c.args.v) (c.in_err-push.ensures.items ∙ sym is)
    ∙ (set-row (lists rows) c.args.v ∙ c.self.view_is)))

pub returns-clause-ok : goal.returns-clause-ok
returns-clause-ok c =
    let rows : List (Vec ℕ Global) = c.self.inside.rows.items in
    let r : Vec ℕ Global = c.index_mut-row.result.now in
    let low : c.args.v < length rows = omega (arith, c.requires, ap length c.self.view_is, length-map rows (λ (z : Vec ℕ Global). z.items)) in
    let is : row (lists rows) c.args.v ≡ r.items = row-at rows c.args.v r low ∙ ap (λ (z : Vec ℕ Global). z.items) (sym c.index_mut-row.ensures.value) in
    lists-set rows c.args.v c.push.new.self ∙ (ap (set (lists rows) c.args.v) (c.in_ok-push.ensures.items ∙ ap (λ (zs : List ℕ). zs ++ c.args.w ∷ []) (sym is))
    ∙ ap (λ (rs : List (List ℕ)). set rs c.args.v (row rs c.args.v ++ c.args.w ∷ [])) c.self.view_is)
