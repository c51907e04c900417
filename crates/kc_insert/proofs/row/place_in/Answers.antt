-- A strictly ascending row never falls, so halving finds where the vertex stands or has to go.
use Rattle.std.proofs.lemmas.List.Sorted.{searched}
use Rattle.kc_insert.proofs.row.place_in.Goals as goal
use Rattle.kc_lists.proofs.Shared.{never_falls}

pub returns : goal.returns
returns c = searched c.args.row.now c.args.other c.binary_search.result c.binary_search.ensures.position (never_falls c.args.row.now c.requires)
