-- Nothing was read, and nothing is kept.
use Rattle.std.proofs.Common.{refl, arith}
use Rattle.kc_text.proofs.Fed.{fed-nothing}
use Rattle.kc_text.proofs.text_reader.TextReader.new.Goals as goal

pub returns-clause-fed : goal.returns-clause-fed
returns-clause-fed c = fed-nothing _ refl c.new-2.ensures.items (c.new.ensures.reads c.args.limits) c.new.ensures.can c.new.ensures.lines (omega arith)
