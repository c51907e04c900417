-- Lists of edges that have each edge once.
use Rattle.std.specs.Prelude.{◌<◌, ◌≢◌, ◌+◌, ◌==◌, ◌&&◌, ◌||◌, ℕ, Bool, true, not, List, [], ◌∷◌, Option, None, Some, All, AllPairs, ◌++◌, nat_lt}
use Rattle.std.specs.Prelude.{if◌then◌else◌}
use Rattle.kc_graph.specs.Bulk.{is_within}
use Rattle.kc_graph.specs.declared.bulk.Edge.{Edge}
use Rattle.kc_tally.specs.declared.fault.EdgeFault.{EdgeFault}
use Rattle.kc_tally.specs.declared.fault.EdgeFault.TheVariants.{NotAVertex, Loop, GreaterFirst, NotAbove}
use Rattle.kc_tally.specs.declared.fault.FirstFault.{FirstFault}

-- no edge is listed twice, each has its lesser end first, and both ends are below `vertices`
pub record ListsEachOnce (vertices : ℕ) (edges : List Edge) : Type 0 where
  pub lesser_first : All (λ e. e.u < e.v) edges
  pub within : All (λ e. e.v < vertices) edges
  pub once : AllPairs (λ e f. e ≢ f) edges

-- whether an edge is above the one before it, if there is one: by first ends, and then by second ones
abbrev pub is_above : Option Edge → Edge → Bool
is_above None e = true
is_above (Some last) e = nat_lt last.u e.u || (last.u == e.u && nat_lt last.v e.v)

-- the first thing that is wrong with an edge that is listed right after `before`
abbrev pub fault_after : ℕ → Option Edge → Edge → Option EdgeFault
fault_after vertices before e =
    if is_within vertices e
    then (if e.u == e.v
    then Some Loop
    else (if nat_lt e.u e.v then (if is_above before e then None else Some NotAbove) else Some GreaterFirst))
    else Some NotAVertex

-- the fault at this place if there is one, or else what the rest of the list gives
abbrev pub refused_at : ℕ → Option EdgeFault → Option FirstFault → Option FirstFault
refused_at place None rest = rest
refused_at place (Some fault) rest = Some (record { place = place; fault = fault })

-- the first fault of a list whose first edge stands at `place`, right after the edge `before`
abbrev pub first_fault : ℕ → ℕ → Option Edge → List Edge → Option FirstFault
first_fault vertices place before [] = None
first_fault vertices place before (e ∷ edges) = refused_at place (fault_after vertices before e) (first_fault vertices (place + 1) (Some e) edges)

-- the last edge of a list, or `before` where it is empty
abbrev pub last_edge : Option Edge → List Edge → Option Edge
last_edge before [] = before
last_edge before (e ∷ edges) = last_edge (Some e) edges

-- whether an edge, if there is one, is not above `gate`
abbrev pub is_up_to : Edge → Option Edge → Bool
is_up_to gate None = true
is_up_to gate (Some last) = not (is_above (Some gate) last)

-- the edges of all pieces, one piece after the other
abbrev pub edges_of_pieces : List (List Edge) → List Edge
edges_of_pieces [] = []
edges_of_pieces (piece ∷ pieces) = piece ++ edges_of_pieces pieces

-- no edge is in both lists
abbrev pub AreDisjoint : List Edge → List Edge → Type 0
AreDisjoint first second = All (λ e. All (λ f. e ≢ f) second) first
