-- What the reader counts is as many as it was told.
use Rattle.std.proofs.Common.{◌≡◌, ap, ◌∙◌, nat_lt, refl, length, arith}
use Rattle.kc_text.proofs.Keeping.{limit-found}
use Rattle.kc_text.proofs.reader.Reader.passed_limit.Goals as goal

pub returns : goal.returns
returns c = λ exact.
    let edge_lines : c.len.result ≡ length c.args.self.now.edges.items = omega (arith, c.len.ensures) in
    c.first_limit.ensures ∙ limit-found c.args.limits.now c.args.self.now _ _ _ _ c.requires c.are_over.ensures.unique exact c.are_over.ensures.over
    (ap (nat_lt c.args.limits.now.edge_lines) edge_lines) refl (ap (nat_lt c.args.limits.now.batches) c.batches.ensures)
