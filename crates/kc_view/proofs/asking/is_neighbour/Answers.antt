-- The list ascends, so halving finds the place of a number that it has, and of no other.
use Rattle.std.proofs.Common.{sym, ◌∙◌, ap, subst}
use Rattle.std.proofs.lemmas.List.Sorted.{searched}
use Rattle.std.specs.List.Sorted.{IsStrictlyIncreasing}
use Rattle.kc_lists.specs.Lists.{member}
use Rattle.kc_lists.proofs.Shared.{never_falls}
use Rattle.kc_graph.proofs.RowsLemmas.{place-found}
use Rattle.kc_view.proofs.Keeping.{kept-list}
use Rattle.kc_view.proofs.asking.is_neighbour.Goals as goal

pub returns : goal.returns
returns g c =
    let now = g.V.View.shown c.args.view.now in
    let row = c.list.result.now in
    let told = (kept-list now.size c.args.x now.kept c.requires.lists c.requires.read).ascends in
    let ascends = subst IsStrictlyIncreasing (sym c.list.ensures) told in
    let place = searched row c.args.y c.binary_search.result c.binary_search.ensures.position (never_falls row ascends) in
    c.is_ok.ensures.value ∙ place-found row c.args.y c.binary_search.result place ∙ ap (member c.args.y) c.list.ensures
