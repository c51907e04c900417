-- A vertex that the row lacks goes to its place, where the row ascends still; one that it has is no neighbour more.
use Rattle.std.proofs.Common.{◌≡◌, ◌<◌, ℕ, List, length, get_or, eqb, sym, ◌∙◌, ap, subst, eqb-true}
use Rattle.std.specs.List.Sorted.{IsStrictlyIncreasing}
use Rattle.kc_lists.specs.Lists.{member}
use Rattle.kc_lists.proofs.Counting.{member-get_or}
use Rattle.kc_lists.proofs.Shared.{or-absorbs}
use Rattle.kc_graph.specs.Rows.{IsPlace}
use Rattle.kc_graph.proofs.Inserting.{inserted_found}
use Rattle.kc_insert.proofs.row.put_in.Goals as goal

pub returns-in_ok-insert-clause-ascends : goal.returns-in_ok-insert-clause-ascends
returns-in_ok-insert-clause-ascends c =
    let row : List ℕ = c.args.row.now.items in
    let found = subst (λ (t : List ℕ). IsPlace t c.args.other c.place_in.result) c.deref.ensures.value c.place_in.ensures in
    subst IsStrictlyIncreasing (sym c.in_ok-insert.ensures.items)
    (inserted_found row c.args.other c.in-Err.place c.place_in.result c.in-Err.is c.requires found).ascends

pub returns-in_ok-insert-clause-has : goal.returns-in_ok-insert-clause-has
returns-in_ok-insert-clause-has c = λ y.
    let row : List ℕ = c.args.row.now.items in
    let found = subst (λ (t : List ℕ). IsPlace t c.args.other c.place_in.result) c.deref.ensures.value c.place_in.ensures in
    ap (member y) c.in_ok-insert.ensures.items ∙ (inserted_found row c.args.other c.in-Err.place c.place_in.result c.in-Err.is c.requires found).gained y

pub returns-in_default-clause-has : goal.returns-in_default-clause-has
returns-in_default-clause-has c = λ y.
    let row : List ℕ = c.args.row.now.items in
    let p = c.in_default.ensures in
    let l : c.in_default.field-0 < length row = subst (λ (t : List ℕ). c.in_default.field-0 < length t) c.deref.ensures.value p.0 in
    let at : get_or row c.in_default.field-0 0 ≡ c.args.other = ap (λ t. get_or t c.in_default.field-0 0) (sym c.deref.ensures.value) ∙ p.1 in
    or-absorbs (member y row) (eqb y c.args.other)
    (λ e. ap (λ k. member k row) (eqb-true y c.args.other e ∙ sym at) ∙ member-get_or row c.in_default.field-0 0 l)
