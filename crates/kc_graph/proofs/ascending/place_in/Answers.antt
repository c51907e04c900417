-- A number past the last goes to the end, and any other one is searched for.
use Rattle.std.proofs.lemmas.List.Sorted.{searched}
use Rattle.kc_graph.proofs.RowsLemmas.{place_at_end}
use Rattle.kc_graph.proofs.ascending.place_in.Goals as goal
use Rattle.kc_lists.proofs.Shared.{never_falls}

pub returns-in-Some : goal.returns-in-Some
returns-in-Some c = place_at_end c.args.row.now c.args.w c.in-Some.last.now c.requires c.in-Some.ensures.value c.if-last-w.true

pub returns-in_default : goal.returns-in_default
returns-in_default c = searched c.args.row.now c.args.w c.binary_search.result c.binary_search.ensures.position (never_falls c.args.row.now c.requires)
