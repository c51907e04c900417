-- What a stripe keeps, and when it is true.
use Rattle.std.specs.Prelude.{◌≡◌, ◌≤◌, ◌<◌, ◌+◌, ◌*◌, ◌/◌, ◌%◌, ◌&&◌, ℕ, Bool, List, [], length, slice_index, slice_index_or, slice_set, nat_eq}
use Rattle.std.specs.Prelude.{nat_lt, if◌then◌else◌}
use Rattle.kc_graph.specs.SimpleGraph.{SimpleGraph}
use Rattle.kc_graph.specs.declared.used.UsedEdges.{UsedEdges}
use Rattle.kc_table.specs.declared.view.Event.{Event}
use Rattle.kc_table.specs.Log.{Opened}
use Rattle.kc_view.specs.Marks.{no_list}
use Rattle.kc_agree.specs.Reads.{WasList}
use Rattle.kc_stripes.specs.declared.stripe.TheConstants.{STRIPES}

-- What a record says of a vertex: its list after the first `at` entries, all of which the log holds. It is not older than the opening.
pub record IsRecord (o : Opened) (log : List Event) (v : ℕ) (r : UsedEdges) : Type 0 where
  pub vertex : r.vertex ≡ v
  pub was : WasList o.table o.edges log r
  pub newer : slice_index o.stamps v ≤ r.at

-- A stripe: its number, what its table opened with, the log that its pass has seen, and the record of each of its vertices.
pub record Striped : Type 0 where
  pub number : ℕ
  pub opened : Opened
  pub seen : List Event
  pub records : List UsedEdges

-- the vertex at a place of a stripe
abbrev pub vertex_at : ℕ → ℕ → ℕ
vertex_at number i = number + STRIPES * i

-- The stripe has exactly its vertices, in order, and each record is true.
pub record IsStripe (s : Striped) : Type 0 where
  pub few : s.number < STRIPES
  pub size : s.opened.edges.size ≡ s.opened.table.shape.fixed
  pub places : (i : ℕ) → nat_lt i (length s.records) ≡ nat_lt (vertex_at s.number i) s.opened.edges.size
  pub each : (i : ℕ) (d : UsedEdges) → i < length s.records → IsRecord s.opened s.seen (vertex_at s.number i) (slice_index_or s.records i d)

-- whether the vertex belongs to the stripe
abbrev pub belongs : Striped → ℕ → Bool
belongs s w = nat_eq (w % STRIPES) s.number && nat_lt w s.opened.edges.size

-- the record of a vertex of the stripe
abbrev pub record_of : Striped → ℕ → UsedEdges
record_of s w = slice_index_or s.records (w / STRIPES) no_list

-- the records with that of one vertex put where it is newer
abbrev pub with_newer : List UsedEdges → UsedEdges → List UsedEdges
with_newer records r =
    if nat_lt (slice_index_or records (r.vertex / STRIPES) no_list).at r.at then slice_set records (r.vertex / STRIPES) r else records
