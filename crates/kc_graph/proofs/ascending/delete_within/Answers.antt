-- The number goes behind all others, and the others stay in their order.
use Rattle.std.proofs.Common.{◌≡◌, ◌-◌, ◌∷◌, ◌++◌, [], ℕ, List, length, take, get_or, ap, sym, ◌∙◌, subst, arith, true≢false}
use Rattle.std.proofs.Math.Seq.{take-append_seam}
use Rattle.std.proofs.lemmas.List.Edits.{length-remove}
use Rattle.std.proofs.lemmas.Slice.{put_mid-rotated}
use Rattle.std.specs.List.{remove}
use Rattle.std.specs.Result.{is_ok}
use Rattle.kc_graph.specs.Rows.{Deleted}
use Rattle.kc_graph.proofs.Deleting.{deleted_at}
use Rattle.kc_graph.proofs.RowsLemmas.{place-found}
use Rattle.kc_graph.proofs.ascending.delete_within.Goals as goal

pub returns-in-Ok-clause-others : goal.returns-in-Ok-clause-others
returns-in-Ok-clause-others c =
    let row : List ℕ = c.args.row.now in
    let place : ℕ = c.in-Ok.place in
    let others : List ℕ = remove row place in
    let found = c.in-Ok.ensures in
    let rotated = put_mid-rotated place (length row - place) row c.rotate_left.new.self 0 found.0 (omega arith) c.rotate_left.ensures.after in
    let n : length row - 1 ≡ length others = omega (arith, length-remove row place found.0) in
    let front = ap (λ k. take k (others ++ get_or row place 0 ∷ [])) n ∙ take-append_seam others (get_or row place 0 ∷ []) in
    subst (λ (t : List ℕ). Deleted row t c.args.w) (sym (ap (take (length row - 1)) rotated ∙ front))
    (deleted_at row c.args.w place c.requires.ascends found.0 found.1)

pub returns-in_default-clause-others : goal.returns-in_default-clause-others
returns-in_default-clause-others c =
    let found = place-found c.args.row.now c.args.w c.place_in.result c.place_in.ensures in
    absurd (true≢false (sym c.requires.here ∙ sym found ∙ ap is_ok c.in_default.is))
