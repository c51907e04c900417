-- What is put into the cleared row is the list that was told, and this is one of its vertex.
use Rattle.std.proofs.Common.{◌++◌, ℕ, List, sym, ◌∙◌, ap, subst}
use Rattle.kc_view.specs.Lists.{IsListOf}
use Rattle.kc_view.proofs.Keeping.{kept-list}
use Rattle.kc_insert.proofs.row.copy_to.Goals as goal

pub returns-clause-same : goal.returns-clause-same
returns-clause-same g c =
    c.in_ok-extend_from_slice.ensures.items ∙ ap (λ (xs : List ℕ). xs ++ c.list.result.now) c.clear.ensures.items ∙ c.list.ensures

pub returns-clause-list : goal.returns-clause-list
returns-clause-list g c =
    let now = g.V.View.shown c.args.view.now in
    subst (IsListOf now.size c.args.w) (sym (returns-clause-same g c)) (kept-list now.size c.args.w now.kept c.requires.lists c.requires.read)
