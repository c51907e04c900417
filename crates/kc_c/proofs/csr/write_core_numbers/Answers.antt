-- There are as many numbers as vertices.
use Rattle.std.proofs.Common.{ℕ, List, length, sym, ap, ◌∙◌}
use Rattle.kc_c.proofs.CsrRows.{rows-size}
use Rattle.kc_c.proofs.csr.write_core_numbers.Goals as goal

pub copy_from_slice-requires : goal.copy_from_slice-requires
copy_from_slice-requires c =
    c.if-core-vertices.false
    ∙ sym (ap (λ (xs : List ℕ). length xs) c.deref.ensures.value
    ∙ (c.in-Ok.ensures.one_each ∙ rows-size c.args.vertices c.args.offsets.now c.args.neighbours.now _ c.in_ok-graph.ensures.graph))
