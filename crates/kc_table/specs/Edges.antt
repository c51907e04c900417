-- The edges of a graph after entries.
use Rattle.std.specs.Prelude.{ℕ, List, [], ◌∷◌, ◌-◌, take, if◌then◌else◌}
use Rattle.kc_graph.specs.SimpleGraph.{SimpleGraph}
use Rattle.kc_graph.specs.Edges.{with_edge, without_edge}
use Rattle.kc_words.specs.declared.shape.Shape.{Shape}
use Rattle.kc_table.specs.declared.entry.Entry.{Entry}
use Rattle.kc_table.specs.declared.view.Event.{Event}
use Rattle.kc_table.specs.TableState.{state_of}

-- the graph after one entry: with its edge, or without it
abbrev pub after_entry : SimpleGraph → Entry → SimpleGraph
after_entry g e = if e.add then with_edge g e.u e.v else without_edge g e.u e.v

-- after all of them in turn
abbrev pub after_entries : SimpleGraph → List Entry → SimpleGraph
after_entries g [] = g
after_entries g (e ∷ es) = after_entries (after_entry g e) es

-- The graph of a table that opened with `g`, after the first `number` entries of the run: those before the table are in `g`.
abbrev pub edges_after : SimpleGraph → Shape → List ℕ → List Event → ℕ → SimpleGraph
edges_after g shape opening log number = after_entries g (take (number - shape.base) (state_of shape opening log).entries)
