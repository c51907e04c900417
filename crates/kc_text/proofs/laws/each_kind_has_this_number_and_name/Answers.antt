-- Each number is printed by its one or two digits.
use Rattle.std.proofs.Common.{refl}
use Rattle.std.specs.Fmt.{digits}
use Rattle.kc_text.proofs.laws.each_kind_has_this_number_and_name.Goals as goal

pub returns : goal.returns
unfolding digits
returns c = record {
  not_a_number = refl;
  missing_field = refl;
  extra_field = refl;
  number_too_large = refl;
  loop_in_batch = refl;
  update_outside_batch = refl;
  edge_line_in_batch = refl;
  too_many_vertices = refl;
  too_many_edge_lines = refl;
  too_many_updates = refl;
  too_many_batches = refl;
  too_long = refl;
}
