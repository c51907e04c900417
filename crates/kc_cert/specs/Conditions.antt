-- The conditions of the certificate, one by one.
use Rattle.std.specs.Prelude.{◌≤◌, ◌<◌, ◌+◌, ℕ, List, length, slice_index, AllPairs, drop}
use Rattle.kc_lists.specs.Lists.{below}
use Rattle.kc_graph.specs.SimpleGraph.{SimpleGraph, degree_among}
use Rattle.kc_graph.specs.Certificate.{degree_as_high}

-- the numbers never fall along the order
abbrev pub NeverFalls : List ℕ → List ℕ → Type 0
NeverFalls core order = AllPairs (λ v w. slice_index core v ≤ slice_index core w) order

-- each vertex has at most as many later neighbours as its number
abbrev pub HasFewLater : SimpleGraph → List ℕ → List ℕ → Type 0
HasFewLater g core order =
    (i : ℕ) → i < length order → degree_among g (drop (i + 1) order) (slice_index order i) ≤ slice_index core (slice_index order i)

-- each vertex has at least as many neighbours whose number is no less
abbrev pub HasEnoughAsHigh : SimpleGraph → List ℕ → Type 0
HasEnoughAsHigh g core = (v : ℕ) → v < g.size → slice_index core v ≤ degree_as_high g core (below g.size) v
