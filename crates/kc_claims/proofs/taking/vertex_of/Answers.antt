-- A search that finds no place shows that the id is not there.
use Rattle.std.proofs.Common.{◌∙◌, ap, sym}
use Rattle.std.specs.Result.{is_ok}
use Rattle.std.proofs.lemmas.List.Sorted.{searched}
use Rattle.kc_lists.proofs.Shared.{never_falls}
use Rattle.kc_graph.proofs.RowsLemmas.{place-found}
use Rattle.kc_claims.proofs.taking.vertex_of.Goals as goal

pub returns-in-Err-clause-none : goal.returns-in-Err-clause-none
returns-in-Err-clause-none c = λ _.
    let found = place-found c.args.ids.now c.args.id c.binary_search.result
    (searched c.args.ids.now c.args.id c.binary_search.result c.binary_search.ensures.position (never_falls c.args.ids.now c.requires)) in
    sym found ∙ ap is_ok c.in-Err.is
