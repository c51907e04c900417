-- What is refused is the text of numbers that was read.
use Rattle.std.proofs.lemmas.Result.{err_from_is_err_and}
use Rattle.kc_names.specs.Names.{as_numbers}
use Rattle.kc_names.proofs.id_reader.IdReader.finish_edges.Goals as goal

pub returns-in_err-named-clause-refused : goal.returns-in_err-named-clause-refused
returns-in_err-named-clause-refused c =
    let p = err_from_is_err_and c.from_residual.result c.from_residual.ensures.1 in
    rw (p.1, p.2) (λ r ids fed e h. c.in_err-named.ensures.refused r (as_numbers ids fed) (cc) h.read)
