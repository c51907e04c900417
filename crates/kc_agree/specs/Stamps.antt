-- What a log says of a vertex: its word, and the number of the last entry that changed its edges. Both are stamps of what is read.
use Rattle.std.specs.Prelude.{◌≡◌, ℕ, suc, Bool, true, not, ◌&&◌, ◌||◌, ◌==◌, ◌+◌, List, [], ◌∷◌, ◌++◌, length, slice_index, if◌then◌else◌}
use Rattle.kc_graph.specs.SimpleGraph.{SimpleGraph, adjacent}
use Rattle.kc_words.specs.VertexWord.{vertex_of}
use Rattle.kc_table.specs.declared.entry.Entry.{Entry}
use Rattle.kc_table.specs.declared.view.Event.{Event}
use Rattle.kc_table.specs.Edges.{after_entry, after_entries}
use Rattle.kc_table.specs.Log.{TableName, value_at}
use Rattle.kc_table.specs.Sections.{number_after, stamp_after}
use Rattle.kc_table.specs.TableState.{TableState, state_of, first_vertex}

-- what the log has made of the table
abbrev pub made_by : TableName → List Event → TableState
made_by table log = state_of table.shape table.opening log

-- the number of the log's last entry, over all tables of the run: that of its last section
abbrev pub number_of : TableName → List Event → ℕ
number_of table log = number_after table.shape table.opening log

-- the core number in the word of a vertex after the log
abbrev pub core_after : TableName → List Event → ℕ → ℕ
core_after table log v = (vertex_of (value_at table.opening log (first_vertex table.shape + v))).core

-- The place stamp of a vertex after the log, which its word has too: the number of the last section that put it and stored its word, or,
-- where none has, the stamp with which the table opened.
abbrev pub place_stamp : TableName → List Event → ℕ → ℕ
place_stamp table log v = stamp_after table.shape table.opening log v

-- whether the entry changes the graph: its edge is to be added and is not there, or to be removed and is
abbrev pub changes_graph : Entry → SimpleGraph → Bool
changes_graph e g = if e.add then not (adjacent g e.u e.v) else adjacent g e.u e.v

-- whether the vertex is an end of the entry's edge
abbrev pub names : Entry → ℕ → Bool
names e v = v == e.u || v == e.v

-- The number of the last of these entries that names the vertex and changes the graph, where the first one has the number after
-- `number`. Where there is none it is `stamp`.
abbrev pub last_change : SimpleGraph → List Entry → ℕ → ℕ → ℕ → ℕ
last_change g [] number v stamp = stamp
last_change g (e ∷ es) number v stamp =
    last_change (after_entry g e) es (suc number) v (if changes_graph e g && names e v then suc number else stamp)

-- the edge stamp of a vertex after the log of a table that opened with these edges and edge stamps
abbrev pub edge_stamp : TableName → SimpleGraph → List ℕ → List Event → ℕ → ℕ
edge_stamp table opened stamps log v = last_change opened (made_by table log).entries table.shape.base v (slice_index stamps v)

-- `stamp` is the number of an entry that names the vertex and changes the graph that the entries before it have made. It need not be the
-- last one such: that is `edge_stamp`.
pub record IsChangeOf (g : SimpleGraph) (es : List Entry) (number v stamp : ℕ) : Type 0 where
  pub front : List Entry
  pub entry : Entry
  pub back : List Entry
  pub is : es ≡ front ++ entry ∷ back
  pub number_is : stamp ≡ number + length front + 1
  pub applied : changes_graph entry (after_entries g front) ≡ true
  pub names_it : names entry v ≡ true
