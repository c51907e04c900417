-- The order has each vertex once.
use Rattle.std.proofs.Common.{◌≡◌, ℕ, length, ap, arith}
use Rattle.kc_graph.proofs.Places.{length-enumerates}
use Rattle.kc_c.proofs.keeping.write_order.Goals as goal

pub copy_from_slice-requires : goal.copy_from_slice-requires
copy_from_slice-requires c =
    let long : length c.args.keeper.now.order ≡ c.args.keeper.now.graph.size = length-enumerates _ _ c.recall_certified.ensures.certified.enumerates in
    omega (arith, long, ap (length {A = ℕ}) c.deref.ensures.value, ap (length {A = ℕ}) c.in-Ok.ensures)
