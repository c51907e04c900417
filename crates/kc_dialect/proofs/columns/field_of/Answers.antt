-- The blanks at the front are no more than all bytes.
use Rattle.std.proofs.Common.{arith}
use Rattle.std.proofs.lemmas.List.Sums.{prefix_len-le-length}
use Rattle.kc_text.specs.Lines.{is_blank}
use Rattle.kc_dialect.proofs.columns.field_of.Goals as goal

pub split_at-requires : goal.split_at-requires
split_at-requires c = omega (arith, c.blanks.ensures, prefix_len-le-length is_blank c.args.part.now)
