-- What a watcher keeps of a stream.
use Rattle.std.specs.Prelude.{◌≡◌, ℕ, true, List, ◌++◌, Option, Some, None, is_some, length}
use Rattle.std.specs.FinSet as set
use Rattle.kc_graph.specs.SimpleGraph.{SimpleGraph}
use Rattle.kc_text.specs.Lines.{EndsLine}
use Rattle.kc_text.specs.Meaning.{Told, with_line}
use Rattle.kc_text.specs.declared.line.TextLine.TheVariants.{Batch}
use Rattle.kc_stream.specs.Asking.{stream_lines}
use Rattle.kc_stream.specs.Ended.{IsOpen}
use Rattle.kc_stream.specs.Gathering.{Gathers}
use Rattle.kc_stream.specs.Hearing.{Heard, hear_all, heard_at_end, nothing_heard}
use Rattle.kc_stream.specs.Ids.{ids_of}
use Rattle.kc_stream.specs.declared.gathered.Gathered.{Gathered}
use Rattle.kc_watch.specs.Accounts.{account_of}
use Rattle.kc_watch.specs.declared.course.Course.{Course}
use Rattle.kc_watch.specs.declared.kept.Kept.{Kept}
use Rattle.kc_watch.specs.declared.watcher.Watcher.{Watcher}

-- the graph of the edges that were gathered
abbrev pub graph_gathered : Gathered → SimpleGraph
graph_gathered gathered = record { size = length gathered.ids; edges = set.from_list gathered.edges.items }

-- The keeper has the graph behind the batches that have ended, and they are counted. Before any batch line there is no keeper.
abbrev pub KeepsAccount : Option Kept → ℕ → Told → Type 0
KeepsAccount None ended told = (told.last ≡ None) × (ended ≡ 0)
KeepsAccount (Some kept) ended told = (is_some told.last ≡ true) × (kept.keeper.graph ≡ (account_of told.edges told.earlier).graph)
    × (ended ≡ (account_of told.edges told.earlier).ended)

-- A course has come to what these lines come to.
pub record StandsAt (course : Course) (heard : Heard) : Type 0 where
  pub gathers : Gathers course.gathered heard
  pub keeps : heard.refusal ≡ None → KeepsAccount course.kept course.ended heard.told

-- A watcher was fed these bytes: it has read lines that have ended, and keeps the bytes behind, which are of an open line. Where a line ends
-- the reading, nothing is kept of the bytes behind it.
pub record WasFed (watcher : Watcher) (fed : List ℕ) : Type 0 where
  pub done : List ℕ
  pub rest : List ℕ
  pub parts : fed ≡ done ++ rest
  pub ended : EndsLine done
  pub stands : StandsAt watcher.course (hear_all watcher.options.bad_lines nothing_heard (stream_lines done))
  pub begun : watcher.course.gathered.refusal ≡ None → (watcher.begun.items ≡ rest) × IsOpen rest

-- What was open has ended once lines have told this: the course has the ids that were named, and keeps the graph behind all batches.
pub record KeepsAll (course : Course) (told : Told) : Type 0 where
  pub ids : course.gathered.ids ≡ ids_of told
  pub keeps : KeepsAccount course.kept course.ended (with_line told Batch)

-- A watcher was fed these bytes, and then the stream has ended: it has the line of them that ends the reading, if one does, and counts the
-- batches that were dropped. Where no line ended the reading, what was open has ended.
abbrev pub HasEnded : Watcher → List ℕ → Type 0
HasEnded watcher fed =
    (watcher.course.gathered.refusal ≡ (heard_at_end watcher.options.bad_lines fed).refusal)
    × (watcher.course.gathered.refused_batches ≡ (heard_at_end watcher.options.bad_lines fed).refused_batches)
    × (watcher.course.gathered.refusal ≡ None → KeepsAll watcher.course (heard_at_end watcher.options.bad_lines fed).told)
