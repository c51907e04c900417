-- The account of a stream that began with a state.
use Rattle.std.specs.Prelude.{◌++◌, ℕ, List, [], ◌∷◌, codes}
use Rattle.std.specs.FinSet as set
use Rattle.kc_flat.specs.Listing.{edge_list}
use Rattle.kc_state.specs.Texts.{KeptParts}
use Rattle.kc_watch.specs.Accounts.{Account}

-- the line that ends the start of a stream
abbrev pub end_of_start : List ℕ
end_of_start = codes "batch" ++ 10 ∷ []

-- No batch has ended. The ids are those of the state, and the graph has as many vertices as the state's, and its edges.
abbrev pub account_of_state : KeptParts → Account
account_of_state s = record {
  ended = 0;
  ids = s.ids;
  graph = record { size = s.ranked.graph.size; edges = set.from_list (edge_list s.ranked.graph) };
}
