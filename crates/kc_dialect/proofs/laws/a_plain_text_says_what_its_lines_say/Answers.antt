-- Each plain line says what its line does.
use Rattle.kc_text.specs.Lines.{lines}
use Rattle.kc_dialect.proofs.Spelled.{said-lines}
use Rattle.kc_dialect.proofs.laws.a_plain_text_says_what_its_lines_say.Goals as goal

pub returns : goal.returns
returns c = λ dialect bytes numbers. said-lines dialect 0 (lines bytes) numbers
