-- Inputs, and the graphs that are read from them.
use Rattle.std.specs.Prelude.{◌≡◌, ◌<◌, ◌^◌, ℕ, List, [], Option, None, Some, All, IfSome, length, option_and_then, if◌then◌else◌}
use Rattle.std.specs.Str.{bytes_eq}
use Rattle.kc_graph.specs.SimpleGraph.{SimpleGraph}
use Rattle.kc_io.specs.Memory.{SourceState}
use Rattle.kc_text.specs.Inputs.{AreIds, IsNamedEdges, start_graph}
use Rattle.kc_text.specs.Meaning.{Means, Told, names}
use Rattle.kc_text.specs.declared.named_edges.NamedEdges.{NamedEdges}
use Rattle.kc_dialect.specs.Dialects.{without_mark}
use Rattle.kc_dialect.specs.Skipped.{AreSkipped}
use Rattle.kc_dialect.specs.declared.dialect.Dialect.{Dialect}
use Rattle.kc_dialect.specs.declared.skipped.SkippedLines.{SkippedLines}
use Rattle.kc_dialect_read.specs.declared.plain_reader.DialectEdges.{DialectEdges}
use Rattle.kc_head.specs.Heads.{head_of}
use Rattle.kc_head.specs.declared.foreign.Foreign.{Foreign}
use Rattle.kc_cores.specs.Answers.{IsForeignBy, graph_meaning, graph_names, passed_over}

-- what is known of bytes that are not told
abbrev pub no_bytes : Option (List ℕ)
no_bytes = None

-- What contracts see of an input of the operating system: how many calls have failed.
pub record Untold : Type 0 where
  pub failed : ℕ

-- the file of an input in memory: its name, and its bytes as a source
pub record MemFile : Type 0 where
  pub name : List ℕ
  pub source : SourceState

-- What contracts see of an input in memory: what is read, the file that it can be turned to if there is one, and how many calls have failed.
pub record InputState : Type 0 where
  pub source : SourceState
  pub file : Option MemFile
  pub failed : ℕ

-- the bytes of the file with this name
abbrev pub bytes_behind : InputState → List ℕ → Option (List ℕ)
bytes_behind input name = option_and_then (λ f. if bytes_eq f.name name then Some f.source.left else None) input.file

-- the bytes of an input that is turned to a file, or not, where they are known
abbrev pub known_bytes : {I : Type 0} → (I → Option (List ℕ)) → (I → List ℕ → Option (List ℕ)) → Option (List ℕ) → I → Option (List ℕ)
known_bytes left behind None i = left i
known_bytes left behind (Some name) i = behind i name

-- the bytes of an input in memory that is turned to a file, or not
abbrev pub bytes_in : InputState → Option (List ℕ) → Option (List ℕ)
bytes_in input file = known_bytes (λ i. Some i.source.left) bytes_behind file input

-- the bytes that are read before what an input has left, if there are any
abbrev pub front_bytes : Option (List ℕ) → List ℕ
front_bytes None = []
front_bytes (Some bytes) = bytes

-- what is read of the bytes of a text: where it is in no dialect, all but a byte order mark at its front
abbrev pub text_bytes : Option Dialect → List ℕ → List ℕ
text_bytes None bytes = without_mark bytes
text_bytes (Some dialect) bytes = bytes

-- an input whose bytes were these, where they are known, has left what is to be read of them, and this is their head
abbrev pub IsLookedAt : Option Dialect → Option (List ℕ) → Option (List ℕ) → List ℕ → Type 0
IsLookedAt dialect known left head = IfSome known (λ all. (head ≡ head_of all) × (left ≡ Some (text_bytes dialect all)))

-- so many ids that each has a number, and edges between these numbers
pub record HasFewIds (listed : NamedEdges) : Type 0 where
  pub few : length listed.ids.items < 2 ^ 32
  pub edges : All (λ p. (p.0 < p.1) × (p.1 < length listed.ids.items)) listed.edges.items

-- The ids and edges are those that the bytes tell in a dialect, if they are in one, and these are the bad lines among them. The bytes are all of
-- what is known of them.
pub record AreReadFrom (dialect : Option Dialect) (known : Option (List ℕ)) (found : DialectEdges) : Type 0 where
  pub bytes : List ℕ
  pub read : IfSome known (λ all. bytes ≡ all)
  pub told : Told
  pub means : graph_meaning dialect bytes ≡ Means told
  pub are : IsNamedEdges told found.named
  pub fit : HasFewIds found.named
  pub skipped : AreSkipped found.skipped (passed_over dialect bytes)
  pub called : found.names ≡ graph_names dialect bytes

-- The graph that the bytes mean, which are all of what is known of them, with the ids for which its vertices stand, and the bad lines that were
-- passed over.
pub record IsGraphOf (dialect : Option Dialect) (known : Option (List ℕ)) (ids : List ℕ) (g : SimpleGraph) (skipped : SkippedLines) : Type 0 where
  pub bytes : List ℕ
  pub read : IfSome known (λ all. bytes ≡ all)
  pub told : Told
  pub means : graph_meaning dialect bytes ≡ Means told
  pub passed : AreSkipped skipped (passed_over dialect bytes)
  pub named : AreIds (names told) ids
  pub is : g ≡ start_graph ids told.edges

-- The graph that the bytes mean, as `IsGraphOf` says, the names for which its ids stand, where these are names, and what the text may be that is no
-- lines of a graph.
pub record IsNamedGraphOf (dialect : Option Dialect) (known : Option (List ℕ)) (ids : List ℕ) (called : Option (List (List ℕ))) (g : SimpleGraph)
    (skipped : SkippedLines) (what : Option Foreign) : Type 0 where
  pub graph : IsGraphOf dialect known ids g skipped
  pub names : called ≡ graph_names dialect graph.bytes
  pub begins : IsForeignBy dialect known what
