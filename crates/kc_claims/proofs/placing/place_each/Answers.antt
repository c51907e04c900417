-- An id is one of those before it, or all have their vertices and each vertex is marked.
use Rattle.std.proofs.Common.{◌≡◌, ◌<◌, ◌++◌, ◌∙◌, ℕ, Bool, List, arith, drop, length, refl, subst, take, true}
use Rattle.std.proofs.lemmas.List.{take_at}
use Rattle.kc_claims.specs.Taking.{is_marked}
use Rattle.kc_claims.specs.declared.placing.Unplaced.TheVariants as unplaced
use Rattle.kc_claims.proofs.HandedOn.{passed-err}
use Rattle.kc_claims.proofs.Placed.{AreVertices-placed}
use Rattle.kc_claims.proofs.placing.place_each.Goals as goal

pub returns-in_err-place_all-clause-second : goal.returns-in_err-place_all-clause-second
returns-in_err-place_all-clause-second c = λ place e.
    c.in_err-place_all.ensures.second place
    (passed-err c.from_residual-in_err-place_all.result c.in_err-place_all.field-0.0 (unplaced.Second place) c.from_residual-in_err-place_all.ensures.1 e)

pub returns-clause-placed : goal.returns-clause-placed
returns-clause-placed c =
    let now : List Bool = c.place_all.new.named in
    let size : length now ≡ c.in_ok-named.named.len = omega (arith, c.in_ok-place_all.ensures.placed.one_mark, c.in_ok-named.ensures.len) in
    let back : take c.in_ok-named.named.len (now ++ drop (length now) c.in_ok-named.named.items) ≡ now =
    take_at now (drop (length now) c.in_ok-named.named.items) c.in_ok-named.named.len size in
    AreVertices-placed c.args.ids.now c.args.column.now c.place_all.new.column now c.in_ok-place_all.ensures.placed
    (subst (λ (named : List Bool). (v : ℕ) → v < length c.args.ids.now → is_marked named v ≡ true) (c.deref.ensures.value ∙ back) (c.in-None.ensures.none refl))
