-- A text that has no dialect and is that of a file.
use Rattle.std.proofs.Common.{◌∙◌, ap, option_map, sym}
use Rattle.kc_cores.proofs.Graphs.{no_dialect}
use Rattle.kc_cores.proofs.checking.ascending_file.Goals as goal

pub returns-clause-plain : goal.returns-clause-plain
returns-clause-plain g c = no_dialect c.args.text.dialect (sym c.is_some.ensures ∙ c.if-is_some.false)

pub returns-clause-named : goal.returns-clause-named
returns-clause-named g c = ap (option_map (λ name. name.now)) c.in-Some.is
