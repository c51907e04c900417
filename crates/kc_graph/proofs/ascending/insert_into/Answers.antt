-- There is room, so the number goes in, at the place that was found.
use Rattle.std.proofs.Common.{ℕ, List, cond, sym, ap, ◌∙◌, subst}
use Rattle.std.specs.List.{insert}
use Rattle.kc_graph.specs.Rows.{Inserted, IsPlace}
use Rattle.kc_graph.proofs.Inserting.{inserted_found}
use Rattle.kc_graph.proofs.ascending.insert_into.Goals as goal

pub returns-in-Err : goal.returns-in-Err
returns-in-Err c =
    let row : List ℕ = c.args.row.now.items in
    let longer : List ℕ = insert row c.in-Err.place c.args.w in
    let found = subst (λ (t : List ℕ). IsPlace t c.args.w c.place_in.result) c.deref.ensures.value c.place_in.ensures in
    let went_in = c.insert-inserted.ensures.items ∙ ap (λ b. cond b longer row) (c.insert-inserted.ensures.succeeds c.requires.room) in
    subst (λ (t : List ℕ). Inserted row t c.args.w) (sym went_in)
    (inserted_found row c.args.w c.in-Err.place c.place_in.result c.in-Err.is c.requires.ascends found)
