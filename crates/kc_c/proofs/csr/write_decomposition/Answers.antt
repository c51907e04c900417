-- There are as many numbers as vertices, and the order has each vertex once.
use Rattle.std.proofs.Common.{ℕ, List, length, sym, ap, ◌∙◌}
use Rattle.kc_graph.proofs.Places.{length-enumerates}
use Rattle.kc_c.proofs.CsrRows.{rows-size}
use Rattle.kc_c.proofs.csr.write_decomposition.Goals as goal

pub copy_from_slice-requires : goal.copy_from_slice-requires
copy_from_slice-requires c =
    c.if-core-vertices.false
    ∙ sym (ap (λ (xs : List ℕ). length xs) c.core.ensures.core
    ∙ (c.in-Ok.ensures.certified.one_each
    ∙ rows-size c.args.vertices c.args.offsets.now c.args.neighbours.now _ (c.in-Ok.ensures.same ∙ c.in_ok-graph.ensures.graph)))

pub copy_from_slice-requires-in-Ok : goal.copy_from_slice-requires-in-Ok
copy_from_slice-requires-in-Ok c =
    c.if-order-vertices.false
    ∙ sym (ap (λ (xs : List ℕ). length xs) c.order.ensures.order
    ∙ (length-enumerates _ _ c.in-Ok.ensures.certified.enumerates
    ∙ rows-size c.args.vertices c.args.offsets.now c.args.neighbours.now _ (c.in-Ok.ensures.same ∙ c.in_ok-graph.ensures.graph)))
