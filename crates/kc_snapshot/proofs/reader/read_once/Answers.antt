-- What is read is the vertex's number in the board's list, which is the last one that is then seen.
use Rattle.std.proofs.Common.{◌∙◌, ap, arith}
use Rattle.std.proofs.lemmas.Grind.{get_or_default_zero}
use Rattle.std.specs.Prelude.{slice_index}
use Rattle.kc_snapshot.proofs.reader.read_once.Goals as goal

pub returns-clause-core : goal.returns-clause-core
returns-clause-core g c =
    let core = c.in_ok-core.core.now.items in
    c.index.ensures ∙ get_or_default_zero core c.args.v c.index.result.now (omega (arith, c.requires, c.in_ok-core.ensures.wide))
    ∙ ap (λ l. slice_index l c.args.v) c.in_ok-core.ensures.list
