-- Its lines say what was drawn, and none of them is refused.
use Rattle.kc_report.proofs.Accepted.{told-generated}
use Rattle.kc_report.proofs.Short.{length-generated}
use Rattle.kc_report.proofs.generator.a_generated_text_is_an_input.Goals as goal

pub returns : goal.returns
returns c = record {
  input = λ number. let (told, is) = told-generated number in (told, is.means, is.edges, is.batches);
  short = length-generated;
}
