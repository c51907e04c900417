-- Sorting keeps the members, and so does dropping repeats.
use Rattle.std.proofs.Common.{eqb, sym, ◌∙◌}
use Rattle.std.proofs.lemmas.List.Sorted.{list_any-IsPermutation, IsNonDecreasingBy-from_sort}
use Rattle.kc_graph.proofs.tidying.put_in_order.Goals as goal

pub drop_repeats-requires : goal.drop_repeats-requires
drop_repeats-requires c = IsNonDecreasingBy-from_sort (λ x. x) c.sort_unstable.new.self c.sort_unstable.ensures.sorted

pub returns-clause-same : goal.returns-clause-same
returns-clause-same c w =
    c.drop_repeats.ensures.same w ∙ sym (list_any-IsPermutation (eqb w) c.args.part.now c.sort_unstable.new.self c.sort_unstable.ensures.permutation)
