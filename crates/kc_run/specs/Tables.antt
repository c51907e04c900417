-- The tables of a run, each as a pass that has seen its whole log. They are told oldest first.
use Rattle.std.specs.Prelude.{◌≡◌, ◌+◌, ◌<◌, ⊤, ℕ, List, [], ◌∷◌, length}
use Rattle.std.specs.List.{flat_map}
use Rattle.kc_graph.specs.SimpleGraph.{SimpleGraph}
use Rattle.kc_table.specs.declared.entry.Entry.{Entry}
use Rattle.kc_table.specs.Edges.{after_entries}
use Rattle.kc_table.specs.Legal.{IsClosed, Legal}
use Rattle.kc_table.specs.Log.{PassSeen}
use Rattle.kc_order.specs.Standing.{list_after}
use Rattle.kc_agree.specs.Stamps.{core_after, made_by}
use Rattle.kc_journal.specs.Sections.{Sound, Sparing}
use Rattle.kc_batch.specs.Runs.{IsNearlySpent}

-- the entries of a table's log
abbrev pub entries_seen : PassSeen → List Entry
entries_seen p = (made_by p.table p.log).entries

-- those of several tables, one table after the other
abbrev pub entries_of : List PassSeen → List Entry
entries_of tables = flat_map entries_seen tables

-- A table of version 0 that opened with this graph, behind so many entries of the run. Its log is legal and leaves nothing open; before
-- each entry and at the end, its core numbers and its list certify the graph; and no entry has put more than it called for.
pub record IsCertifiedTable (opened : SimpleGraph) (base : ℕ) (p : PassSeen) : Type 0 where
  pub size : p.table.shape.fixed ≡ opened.size
  pub base_is : p.table.shape.base ≡ base
  pub version : p.table.shape.version ≡ 0
  pub legal : Legal p.table.shape p.table.opening p.log
  pub closed : IsClosed (made_by p.table p.log)
  pub sound : Sound p.table opened p.log
  pub sparing : Sparing p.table opened p.log

-- The second table opened with the list and the core numbers that the first one ended with.
pub record TakesOver (first second : PassSeen) : Type 0 where
  pub list : list_after second.table [] ≡ list_after first.table first.log
  pub core : (v : ℕ) → v < first.table.shape.fixed → core_after second.table [] v ≡ core_after first.table first.log v

-- Where a table is followed by another one, its versions were nearly spent at its end, and the next one took over.
abbrev pub IsFollowed : PassSeen → List PassSeen → Type 0
IsFollowed p [] = ⊤
IsFollowed p (next ∷ more) = IsNearlySpent p.table p.log × TakesOver p next

-- The first of these tables opened with this graph, behind so many entries of the run. Each later one goes on where the one before ended,
-- which was nearly spent: it opened with the graph after its entries, and is behind all entries that were made by then.
abbrev pub AreTables : SimpleGraph → ℕ → List PassSeen → Type 0
AreTables opened base [] = ⊤
AreTables opened base (p ∷ more) = IsCertifiedTable opened base p × IsFollowed p more
    × AreTables (after_entries opened (entries_seen p)) (base + length (entries_seen p)) more
