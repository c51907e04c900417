-- What is written for a task, line by line.
use Rattle.std.specs.Prelude.{◌≡◌, ◌<◌, ◌&&◌, ℕ, List, [], All, length, slice_index_or, ⊤, if◌then◌else◌}
use Rattle.std.specs.List.{flat_map}
use Rattle.kc_flat.specs.Listing.{ascending_below}
use Rattle.kc_graph.specs.Peeling.{at}
use Rattle.kc_cores.specs.Answers.{is_in_core, label_at}
use Rattle.kc_lines.specs.Fields.{Label}
use Rattle.kc_lines.specs.declared.format.Format.{Format}
use Rattle.kc_cores.specs.Lines.{counts_line, edge_line, layer_line, member_line, number_line}
use Rattle.kc_cores.specs.declared.listing.Listing.{Listing}
use Rattle.kc_cores.specs.declared.listing.Listing.TheVariants.{Numbers, Sizes, Members, Edges, Layers, Order}
use Rattle.kc_cores.specs.declared.made_lines.MadeLines.{MadeLines}
use Rattle.kc_cores.specs.declared.sizes.CoreSizes.{CoreSizes}

-- how many places there are for lines, in a graph with so many vertices
abbrev pub places : Listing → ℕ → ℕ
places Numbers n = n
places (Sizes sizes) n = length sizes.shells.items
places (Members k) n = n
places (Edges k edges) n = length edges.items
places (Layers layer) n = n
places (Order order) n = length order.items

-- the listing is one of a graph with so many vertices
abbrev pub Fits : ℕ → Listing → Type 0
Fits n Numbers = ⊤
Fits n (Sizes sizes) = (length sizes.vertices.items ≡ length sizes.shells.items) × (length sizes.edges.items ≡ length sizes.shells.items)
Fits n (Members k) = ⊤
Fits n (Edges k edges) = All (λ e. (e.0 < e.1) × (e.1 < n)) edges.items
Fits n (Layers layer) = length layer.items ≡ n
Fits n (Order order) = All (λ v. v < n) order.items

-- the label and the core number of a vertex
abbrev pub vertex_line : Format → List Label → List ℕ → ℕ → List ℕ
vertex_line format labels core v = number_line format (label_at labels v) (at core v)

-- a level with the three counts at its place
abbrev pub size_line_in : Format → CoreSizes → ℕ → List ℕ
size_line_in format sizes k = counts_line format k (at sizes.shells.items k) (at sizes.vertices.items k) (at sizes.edges.items k)

-- the label of a vertex, where it is in the k-core
abbrev pub member_line_in : Format → ℕ → List Label → List ℕ → ℕ → List ℕ
member_line_in format k labels core v = if is_in_core core k v then member_line format (label_at labels v) else []

-- the labels of the ends of an edge, where both are in the k-core
abbrev pub edge_line_in : Format → ℕ → List Label → List ℕ → ℕ × ℕ → List ℕ
edge_line_in format k labels core e =
    if is_in_core core k e.0 && is_in_core core k e.1 then edge_line format (label_at labels e.0) (label_at labels e.1) else []

-- the label, the core number and the layer of a vertex
abbrev pub layer_line_in : Format → List Label → List ℕ → List ℕ → ℕ → List ℕ
layer_line_in format labels core layer v = layer_line format (label_at labels v) (at core v) (at layer v)

-- the line at a place, which may be empty
abbrev pub line_at : Format → Listing → List Label → List ℕ → ℕ → List ℕ
line_at format Numbers labels core i = vertex_line format labels core i
line_at format (Sizes sizes) labels core i = size_line_in format sizes i
line_at format (Members k) labels core i = member_line_in format k labels core i
line_at format (Edges k edges) labels core i = edge_line_in format k labels core (slice_index_or edges.items i (0, 0))
line_at format (Layers layer) labels core i = layer_line_in format labels core layer.items i
line_at format (Order order) labels core i = vertex_line format labels core (at order.items i)

-- the lines at all places
abbrev pub listing_lines : Format → Listing → List Label → List ℕ → List ℕ
listing_lines format listing labels core = flat_map (line_at format listing labels core) (ascending_below (places listing (length labels)))

-- the lines that were made can be written: each vertex has a label and a core number, and nothing is gathered yet
abbrev pub AreReady : MadeLines → Type 0
AreReady made = (length made.labels ≡ length made.core.items) × Fits (length made.labels) made.listing × (made.page ≡ [])

-- the bytes of the lines that were made
abbrev pub made_text : MadeLines → List ℕ
made_text made = listing_lines made.format made.listing made.labels made.core.items
