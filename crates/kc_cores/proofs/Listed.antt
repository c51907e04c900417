-- The lines of a listing are those of its task.
use Rattle.std.proofs.Common.{◌≡◌, ◌+◌, ◌∙◌, ◌&&◌, ℕ, List, Option, ap, arith, length}
use Rattle.std.specs.List.{flat_map}
use Rattle.kc_flat.specs.Listing.{ascending_below, edge_list}
use Rattle.kc_graph.specs.Certificate.{Certifies}
use Rattle.kc_graph.specs.Core.{greatest}
use Rattle.kc_graph.specs.SimpleGraph.{SimpleGraph}
use Rattle.kc_tally.specs.Layers.{AreLayers}
use Rattle.kc_lines.specs.Fields.{Label}
use Rattle.kc_lines.specs.declared.format.Format.{Format}
use Rattle.kc_wishes.specs.declared.request.Task.TheVariants as task
use Rattle.kc_cores.specs.Answers.{AreLinesFor, edge_lines, is_in_core, label_at, level_of, member_lines, size_line}
use Rattle.kc_cores.specs.Lines.{counts_line, edge_line, member_line}
use Rattle.kc_cores.specs.Listings.{edge_line_in, layer_line_in, listing_lines, member_line_in, size_line_in, vertex_line}
use Rattle.kc_cores.specs.Sizes.{AreSizes}
use Rattle.kc_cores.specs.declared.listing.Listing.TheVariants as listing
use Rattle.kc_cores.specs.declared.sizes.CoreSizes.{CoreSizes}
use Rattle.std.specs.declared.vec.Vec.{Vec}
use Rattle.std.specs.declared.alloc.Global.{Global}
use Rattle.kc_cores.proofs.Placing.{flat_map-agree, flat_map-filter, flat_map-places}

-- the same four numbers make the same line
same_line : (format : Format) (k a b d a' b' d' : ℕ) → a ≡ a' → b ≡ b' → d ≡ d' → counts_line format k a b d ≡ counts_line format k a' b' d'
same_line format k a b d a' b' d' one two three = λ i. counts_line format k (one i) (two i) (three i)

-- the lines of the counts of a graph
pub lines-sizes : (format : Format) (g : SimpleGraph) (core : List ℕ) (labels : List Label) (sizes : CoreSizes) → AreSizes g core sizes
    → AreLinesFor format task.Sizes labels g core (listing_lines format (listing.Sizes sizes) labels core)
lines-sizes format g core labels sizes h =
    ap (λ n. flat_map (size_line_in format sizes) (ascending_below n)) h.shell_levels
    ∙ flat_map-agree (size_line_in format sizes) (size_line format g core) (greatest core + 1)
    (λ k l. same_line format k _ _ _ _ _ _ (h.shells k (omega arith)) (h.vertices k (omega arith)) (h.edges k (omega arith)))

-- the lines of the members of a core
pub lines-members : (format : Format) (g : SimpleGraph) (core : List ℕ) (labels : List Label) (level : Option ℕ) (k : ℕ) → k ≡ level_of level core
    → length labels ≡ g.size → AreLinesFor format (task.Members level) labels g core (listing_lines format (listing.Members k) labels core)
lines-members format g core labels level k is size =
    ap (λ n. flat_map (member_line_in format k labels core) (ascending_below n)) size
    ∙ flat_map-filter (is_in_core core k) (λ v. member_line format (label_at labels v)) (ascending_below g.size) ∙ ap (member_lines format labels g core) is

-- the lines of the edges of a core
pub lines-edges : (format : Format) (g : SimpleGraph) (core : List ℕ) (labels : List Label) (level : Option ℕ) (k : ℕ) (edges : Vec (ℕ × ℕ) Global)
    → k ≡ level_of level core → edges.items ≡ edge_list g
    → AreLinesFor format (task.Edges level) labels g core (listing_lines format (listing.Edges k edges) labels core)
lines-edges format g core labels level k edges is all =
    flat_map-places (edge_line_in format k labels core) (0, 0) edges.items ∙ ap (flat_map (edge_line_in format k labels core)) all
    ∙ flat_map-filter (λ (e : ℕ × ℕ). is_in_core core k e.0 && is_in_core core k e.1)
    (λ e. edge_line format (label_at labels e.0) (label_at labels e.1)) (edge_list g)
    ∙ ap (edge_lines format labels g core) is

-- the lines of layers
pub lines-layers : (format : Format) (g : SimpleGraph) (core : List ℕ) (labels : List Label) (layer : Vec ℕ Global) → AreLayers g core layer.items
    → length labels ≡ g.size → AreLinesFor format task.Layers labels g core (listing_lines format (listing.Layers layer) labels core)
lines-layers format g core labels layer h size = (layer.items, h, ap (λ n. flat_map (layer_line_in format labels core layer.items) (ascending_below n)) size)

-- the lines of an order
pub lines-order : (format : Format) (g : SimpleGraph) (core : List ℕ) (labels : List Label) (order : Vec ℕ Global) → Certifies g core order.items
    → AreLinesFor format task.Order labels g core (listing_lines format (listing.Order order) labels core)
lines-order format g core labels order h = (order.items, h, flat_map-places (vertex_line format labels core) 0 order.items)
