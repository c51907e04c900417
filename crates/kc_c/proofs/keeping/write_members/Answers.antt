-- The vertices whose core number is no less than k are the k-core.
use Rattle.std.proofs.Common.{◌≡◌, not, length, refl, sym, ap, arith, eq-eqb}
use Rattle.kc_keeper.proofs.MembersOfCores.{are_core_members}
use Rattle.kc_c.proofs.keeping.write_members.Goals as goal

pub returns : goal.returns
returns c =
    let places : length c.args.members.now ≡ c.args.keeper.now.graph.size = omega arith in
    record {
      known = refl;
      done = λ _. are_core_members c.args.keeper.now.graph c.core_numbers.result.now c.args.k _ c.core_numbers.ensures.seidman
          c.write_at_least.ensures.written;
      places = c.write_at_least.ensures.places;
      rest = c.write_at_least.ensures.rest;
      same = λ ne. absurd (ne refl);
      no_number = λ ne. absurd (ne refl);
      members_length = sym (ap not (eq-eqb _ _ places));
    }
