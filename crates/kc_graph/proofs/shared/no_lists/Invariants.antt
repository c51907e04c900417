-- So many empty lists are made, and the one that they share is empty.
use Rattle.std.proofs.Common.{◌≡◌, ℕ, List, [], replicate}
use Rattle.std.specs.Arc.{arc_slice_items}
use Rattle.std.specs.List.{between}
use Rattle.kc_graph.proofs.shared.no_lists.Given as goal

-- no vertices
abbrev nobody : List ℕ
nobody = []

abbrev pub invariant-loop : goal.invariant-loop
invariant-loop l =
    (l.lists.items ≡ replicate l.counter []) × (between l.none-inside.from l.none-inside.to (arc_slice_items l.none-inside.block) ≡ nobody)
