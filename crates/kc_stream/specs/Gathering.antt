-- What is gathered of the lines of a stream.
use Rattle.std.specs.Prelude.{◌≡◌, ◌<◌, ◌++◌, ℕ, List, [], None, Some, true, All, is_some, length, map, unwrap_or}
use Rattle.std.specs.List.{filter_map}
use Rattle.kc_graph.specs.declared.update.Update.{Update}
use Rattle.kc_text.specs.Inputs.{AreAmong, AreUpdates, numbered}
use Rattle.kc_text.specs.Meaning.{Told, ends, ends_of}
use Rattle.kc_io.specs.Causes.{one_more}
use Rattle.kc_stream.specs.Hearing.{Heard, emptied}
use Rattle.kc_stream.specs.Ids.{ids_of}
use Rattle.kc_stream.specs.declared.gathered.Gathered.{Gathered}

-- a pair of two numbers below a bound, the lesser one first
abbrev pub IsPairBelow : ℕ → ℕ × ℕ → Type 0
IsPairBelow bound p = (p.0 < p.1) × (p.1 < bound)

-- an update between two numbers below a bound
abbrev pub IsUpdateBelow : ℕ → Update → Type 0
IsUpdateBelow bound update = update.v < bound

-- The ids that were named before the batch that is open, and behind them those that came in it. So many are the first.
pub record Knows (known : ℕ) (ids : List ℕ) (told : Told) : Type 0 where
  pub known_is : known ≡ length (ids_of (emptied told))
  pub came : List ℕ
  pub ids_are : ids ≡ ids_of (emptied told) ++ came

-- The ids are those that were named. Before any batch line the edges are those that were told, between the numbers that stand for their
-- ids and without loops; after one, the updates are the changes of the last batch.
pub record Holds (gathered : Gathered) (told : Told) : Type 0 where
  pub ids : gathered.ids ≡ ids_of told
  pub in_batch : gathered.in_batch ≡ is_some told.last
  pub begun : told.last ≡ None → told.earlier ≡ []
  pub edges : told.last ≡ None → gathered.edges.items ≡ filter_map (numbered gathered.ids) told.edges
  pub edge_ends : AreAmong gathered.ids (ends told.edges)
  pub updates : AreUpdates gathered.ids (unwrap_or told.last []) gathered.updates.items
  pub update_ends : AreAmong gathered.ids (ends (map ends_of (unwrap_or told.last [])))
  pub edges_within : All (IsPairBelow (length gathered.ids)) gathered.edges.items
  pub updates_within : All (IsUpdateBelow (length gathered.ids)) gathered.updates.items
  pub no_edges : is_some told.last ≡ true → gathered.edges.items ≡ []
  pub knows : is_some told.last ≡ true → Knows gathered.known gathered.ids told

-- What is left where a line is refused behind lines that told this: of a batch that is open, all that it takes to drop it.
pub record IsSpoilt (gathered : Gathered) (told : Told) : Type 0 where
  pub in_batch : gathered.in_batch ≡ is_some told.last
  pub no_edges : is_some told.last ≡ true → gathered.edges.items ≡ []
  pub knows : is_some told.last ≡ true → Knows gathered.known gathered.ids told

-- These lines were gathered up to the refused one that ends the reading, if one does; that one is known, and so is the first refused line of a
-- batch that is dropped.
pub record Gathers (gathered : Gathered) (heard : Heard) : Type 0 where
  pub lines : gathered.lines ≡ heard.lines
  pub refusal : gathered.refusal ≡ heard.refusal
  pub dropped : gathered.dropped ≡ heard.dropped
  pub refused_batches : gathered.refused_batches ≡ heard.refused_batches
  pub emptied : is_some heard.dropped ≡ true → heard.told.last ≡ Some []
  pub holds : heard.refusal ≡ None → Holds gathered heard.told

-- One line more was read, and it is refused: it is counted, and nothing is done about it so far.
pub record RefusesNext (gathered : Gathered) (heard : Heard) : Type 0 where
  pub lines : gathered.lines ≡ one_more heard.lines
  pub refusal : gathered.refusal ≡ None
  pub dropped : gathered.dropped ≡ None
  pub refused_batches : gathered.refused_batches ≡ heard.refused_batches
  pub spoilt : IsSpoilt gathered heard.told
