-- What is known of a stream behind its batches.
use Rattle.std.specs.Prelude.{◌+◌, ◌-◌, ◌^◌, ℕ, List, [], Option, fold, length, map, min}
use Rattle.kc_graph.specs.Core.{greatest}
use Rattle.kc_graph.specs.Growing.{with_vertices}
use Rattle.kc_graph.specs.SimpleGraph.{SimpleGraph}
use Rattle.kc_graph.proofs.Existence.{certificate_exists}
use Rattle.kc_graph.proofs.Law.{certified-core_numbers}
use Rattle.kc_tally.proofs.Existing.{layers-exist}
use Rattle.kc_text.specs.declared.change.ChangeLine.{ChangeLine}
use Rattle.kc_text.specs.Inputs.{EdgeBatch, numbered_batch, start_graph}
use Rattle.kc_text.specs.Meaning.{ends, ends_of}
use Rattle.kc_batch_effects.specs.Batches.{graph_after_batch}
use Rattle.kc_answers.specs.Answers.{number_by}
use Rattle.kc_stream.specs.Ids.{with_names}

-- The core numbers of a graph. Each graph has one list of them, and no other list of numbers is its core numbers (Seidman 1983): the law
-- `every_graph_has_its_core_numbers` says both of this one.
abbrev pub core_numbers_of : SimpleGraph → List ℕ
core_numbers_of g = (certificate_exists g).0

-- The layers of a graph, with those of each core number counted from 0 (Hébert-Dufresne, Grochow and Allard 2016). Each graph has one list
-- of them, and no other list is its layers: the law `every_graph_has_its_layers` says both of this one.
abbrev pub layers_of : SimpleGraph → List ℕ
layers_of g = let c = certificate_exists g in (layers-exist g c.0 (certified-core_numbers g c.0 c.1 c.2)).0

-- the greatest core number of a graph, or 0 where it has no vertices
abbrev pub top_of : SimpleGraph → ℕ
top_of g = greatest (core_numbers_of g)

-- What is known of a stream behind one of its batches: how many batches have ended; the ids that were named, each at the number that stands
-- for it; and the graph between these numbers. The numbers are the places of the ids in the order of their first coming.
pub record Account : Type 0 where
  pub ended : ℕ
  pub ids : List ℕ
  pub graph : SimpleGraph

-- the core number of an id, and none where it was not named
abbrev pub core_number_in : Account → ℕ → Option ℕ
core_number_in account id = number_by account.ids (core_numbers_of account.graph) id

-- one batch more has ended; they are counted up to the greatest number of 32 bits
abbrev pub one_ended : ℕ → ℕ
one_ended count = min (count + 1) (2 ^ 32 - 1)

-- the account of the start: of the graph of its edges
abbrev pub account_of_start : List (ℕ × ℕ) → Account
account_of_start edges = record {
  ended = 0;
  ids = with_names [] (ends edges);
  graph = start_graph (with_names [] (ends edges)) edges;
}

-- the graph after a batch, with the ids that came in it
abbrev pub graph_with : SimpleGraph → List ℕ → EdgeBatch → SimpleGraph
graph_with g ids batch = graph_after_batch (with_vertices (length ids) g) batch.updates

-- the account with one batch more, where these are the ids then
abbrev pub entered : Account → List ℕ → EdgeBatch → Account
entered account ids batch = record { ended = one_ended account.ended; ids = ids; graph = graph_with account.graph ids batch }

-- the ids with those that changes name
abbrev pub ids_with : List ℕ → List ChangeLine → List ℕ
ids_with ids changes = with_names ids (ends (map ends_of changes))

-- the changes that decide, as a batch behind an account
abbrev pub batch_behind : Account → List ChangeLine → EdgeBatch
batch_behind account changes = numbered_batch (ids_with account.ids changes) changes

-- the account with one batch more, of which the changes count that decide
abbrev pub with_batch : Account → List ChangeLine → Account
with_batch account changes = entered account (ids_with account.ids changes) (batch_behind account changes)

-- the account of the start and of batches behind it, one after another
abbrev pub account_of : List (ℕ × ℕ) → List (List ChangeLine) → Account
account_of edges batches = fold with_batch (account_of_start edges) batches
