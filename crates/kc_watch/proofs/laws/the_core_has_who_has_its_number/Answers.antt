-- Who is in a core is in each lower one, and a core number is the greatest K of a core that has the vertex.
use Rattle.std.proofs.Common.{arith}
use Rattle.std.specs.Prelude.{slice_index}
use Rattle.kc_graph.specs.Core.{IsCoreNumber}
use Rattle.kc_watch.specs.Accounts.{core_numbers_of}
use Rattle.kc_watch.proofs.Accounts.{numbers-are}
use Rattle.kc_watch.proofs.laws.the_core_has_who_has_its_number.Goals as goal

pub returns : goal.returns
returns c = λ g k v low.
    let number : IsCoreNumber g v (slice_index (core_numbers_of g) v) = (numbers-are g).each v low in (
      λ reaches.
          let (members, many, here) = number.reached in (
            members,
            record {
              vertices = many.vertices;
              distinct = many.distinct;
              degrees = λ i d l. omega (arith, reaches, many.degrees i d l);
            },
            here,
          ),
      λ is_in. number.greatest k is_in,
    )
