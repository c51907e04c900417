-- The graph that an input begins with.
use Rattle.std.proofs.Common.{◌≡◌, ℕ, List, length, refl}
use Rattle.kc_text.specs.Inputs.{start_graph}

-- the graph of an input has a vertex for each id
pub size-start_graph : (ids : List ℕ) (edges : List (ℕ × ℕ)) → (start_graph ids edges).size ≡ length ids
unfolding start_graph
size-start_graph ids edges = refl
