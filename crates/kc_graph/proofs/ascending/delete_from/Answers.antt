-- The search finds the number, which the list has, and to remove it at its place leaves all others; the other case can't be.
use Rattle.std.proofs.Common.{ℕ, List, ap, sym, ◌∙◌, subst, true≢false, Ok}
use Rattle.std.specs.Result.{is_ok}
use Rattle.kc_graph.specs.Rows.{Deleted, IsPlace}
use Rattle.kc_graph.proofs.Deleting.{deleted_at}
use Rattle.kc_graph.proofs.RowsLemmas.{place-found}
use Rattle.kc_graph.proofs.ascending.delete_from.Goals as goal

pub returns-in-Ok : goal.returns-in-Ok
returns-in-Ok c =
    let row : List ℕ = c.args.row.now.items in
    let found = subst (λ (t : List ℕ). IsPlace t c.args.w (Ok c.in-Ok.place)) c.deref.ensures.value c.in-Ok.ensures in
    subst (λ (t : List ℕ). Deleted row t c.args.w) (sym c.remove.ensures.items) (deleted_at row c.args.w c.in-Ok.place c.requires.ascends found.0 found.1)

pub returns-in_default : goal.returns-in_default
returns-in_default c =
    let found = place-found c.args.row.now.items c.args.w c.place_in.result
    (subst (λ (t : List ℕ). IsPlace t c.args.w c.place_in.result) c.deref.ensures.value c.place_in.ensures) in
    absurd (true≢false (sym c.requires.here ∙ sym found ∙ ap is_ok c.in_default.is))
