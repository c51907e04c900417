-- The last id is as far from the first as its place, so no number between them is missing.
use Rattle.std.proofs.Common.{◌-◌, List, ℕ, arith, length, refl}
use Rattle.kc_graph.specs.Peeling.{at}
use Rattle.kc_claims.proofs.Rising.{IsRow-ends}
use Rattle.kc_claims.proofs.places.row_of.Goals as goal

pub returns : goal.returns
returns c =
    let ids : List ℕ = c.args.ids.now in
    IsRow-ends ids (at ids 0) (at ids (length ids - 1)) c.requires refl refl (omega arith)
