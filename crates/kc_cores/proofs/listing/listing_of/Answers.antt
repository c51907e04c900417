-- The lines are those of the task that was asked for.
use Rattle.std.proofs.Common.{subst, sym}
use Rattle.kc_graph.proofs.Law.{certified-core_numbers}
use Rattle.kc_wishes.specs.declared.request.Task.{Task}
use Rattle.kc_cores.specs.Answers.{AreLinesFor}
use Rattle.kc_cores.specs.Listings.{listing_lines}
use Rattle.kc_cores.specs.declared.listing.Listing.TheVariants as listing
use Rattle.kc_cores.proofs.Listed.{lines-edges, lines-members, lines-order, lines-sizes}
use Rattle.kc_cores.proofs.listing.listing_of.Goals as goal

pub layers_of-requires : goal.layers_of-requires
layers_of-requires c = certified-core_numbers c.args.graph.now c.args.core.now c.args.order.items c.requires

pub returns-in_ok-sizes_of-in-Sizes-clause-lines : goal.returns-in_ok-sizes_of-in-Sizes-clause-lines
returns-in_ok-sizes_of-in-Sizes-clause-lines c format labels size =
    subst (λ (t : Task). AreLinesFor format t labels c.args.graph.now c.args.core.now
    (listing_lines format (listing.Sizes c.in_ok-sizes_of-in-Sizes.field-0) labels c.args.core.now)) (sym c.in-Sizes.is)
    (lines-sizes format c.args.graph.now c.args.core.now labels c.in_ok-sizes_of-in-Sizes.field-0 c.in_ok-sizes_of-in-Sizes.ensures)

pub returns-in-Members-clause-lines : goal.returns-in-Members-clause-lines
returns-in-Members-clause-lines c format labels size =
    subst (λ (t : Task). AreLinesFor format t labels c.args.graph.now c.args.core.now
    (listing_lines format (listing.Members c.level_of.result) labels c.args.core.now))
    (sym c.in-Members.is)
    (lines-members format c.args.graph.now c.args.core.now labels c.in-Members.level c.level_of.result c.level_of.ensures size)

pub returns-in_ok-edges-in-Edges-clause-lines : goal.returns-in_ok-edges-in-Edges-clause-lines
returns-in_ok-edges-in-Edges-clause-lines c format labels size =
    subst (λ (t : Task). AreLinesFor format t labels c.args.graph.now c.args.core.now
    (listing_lines format (listing.Edges c.level_of-in-Edges.result c.in_ok-edges-in-Edges.edges) labels c.args.core.now)) (sym c.in-Edges.is)
    (lines-edges format c.args.graph.now c.args.core.now labels c.in-Edges.level c.level_of-in-Edges.result c.in_ok-edges-in-Edges.edges
    c.level_of-in-Edges.ensures c.in_ok-edges-in-Edges.ensures.list)

pub returns-in-Order-clause-lines : goal.returns-in-Order-clause-lines
returns-in-Order-clause-lines c format labels size =
    subst (λ (t : Task). AreLinesFor format t labels c.args.graph.now c.args.core.now
    (listing_lines format (listing.Order c.args.order) labels c.args.core.now)) (sym c.in-Order.is)
    (lines-order format c.args.graph.now c.args.core.now labels c.args.order c.requires)
