-- The lines of both pieces stand one after the other.
use Rattle.std.proofs.Common.{length, refl}
use Rattle.kc_text.specs.Lines.{lines}
use Rattle.kc_dialect.proofs.Fed.{bad-behind, text-behind}
use Rattle.kc_dialect.proofs.laws.a_cut_text_is_rewritten_piece_by_piece.Goals as goal

pub returns : goal.returns
returns c = record {
  text = λ dialect first second ended. text-behind dialect (length (lines first)) first second ended refl;
  bad = λ dialect first second ended. bad-behind dialect (length (lines first)) first second ended refl;
}
