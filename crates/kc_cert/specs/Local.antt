-- When a plan keeps the certificate, as far as a look at what it touches can tell.
use Rattle.std.specs.Prelude.{◌≡◌, ◌≤◌, ◌<◌, ◌+◌, ⊤, ℕ, Bool, true, false, not, ◌||◌, List, [], ◌∷◌, ◌++◌, drop, slice_index, nat_eq}
use Rattle.std.specs.List.{list_any}
use Rattle.kc_lists.specs.Lists.{member, Distinct, place_of}
use Rattle.kc_graph.specs.SimpleGraph.{SimpleGraph, adjacent, degree_among}
use Rattle.kc_graph.specs.Certificate.{degree_as_high}
use Rattle.kc_graph.specs.Lawful.{Ranked}
use Rattle.kc_graph.specs.Plans.{is_applied, state_after}
use Rattle.kc_graph.specs.declared.plan.Moves.{Moves}
use Rattle.kc_graph.specs.declared.plan.Moves.TheVariants.{Kept, Plain, Rise, Fall}
use Rattle.kc_graph.specs.declared.plan.Plan.{Plan}
use Rattle.kc_cert.specs.Stands.{leaving, shifts_of}

-- the vertices that shifts move
abbrev pub firsts : List (ℕ × ℕ) → List ℕ
firsts [] = []
firsts (shift ∷ shifts) = shift.0 ∷ firsts shifts

-- the vertices after which they are put
abbrev pub seconds : List (ℕ × ℕ) → List ℕ
seconds [] = []
seconds (shift ∷ shifts) = shift.1 ∷ seconds shifts

-- no vertex is put after itself or after one that a later shift moves
abbrev pub AreInTurn : List (ℕ × ℕ) → Type 0
AreInTurn [] = ⊤
AreInTurn (shift ∷ shifts) = (member shift.1 (shift.0 ∷ firsts shifts) ≡ false) × AreInTurn shifts

-- all vertices that moves move
abbrev pub moved_vertices : Moves → List ℕ
moved_vertices Kept = []
moved_vertices Plain = []
moved_vertices (Rise level rise shifts) = rise.items ++ firsts shifts.items
moved_vertices (Fall level fall) = fall.items

-- a vertex of this core number
pub record IsOfLevel (s : Ranked) (level x : ℕ) : Type 0 where
  pub vertex : x < s.graph.size
  pub of_level : slice_index s.core x ≡ level

-- the core number that the moves speak of, which is 0 where they move nothing
abbrev pub level_of : Moves → ℕ
level_of Kept = 0
level_of Plain = 0
level_of (Rise level rise shifts) = level
level_of (Fall level fall) = level

-- the vertices that fall
abbrev pub falling : Moves → List ℕ
falling Kept = []
falling Plain = []
falling (Rise level rise shifts) = []
falling (Fall level fall) = fall.items

-- The moves can be made in a state.
pub record MovesFit (s : Ranked) (moves : Moves) : Type 0 where
  -- each vertex moves once
  pub once : Distinct (moved_vertices moves)
  -- and has the core number that the moves speak of
  pub of_level : (x : ℕ) → member x (moved_vertices moves) ≡ true → IsOfLevel s (level_of moves) x
  -- which is above 0 where it falls
  pub above_0 : (x : ℕ) → member x (falling moves) ≡ true → 0 < level_of moves
  -- shifts put vertices after others of this core number
  pub after_level : (w : ℕ) → member w (seconds (shifts_of moves)) ≡ true → IsOfLevel s (level_of moves) w
  -- that don't leave it
  pub after_staying : (w : ℕ) → member w (seconds (shifts_of moves)) ≡ true → member w (leaving moves) ≡ false
  -- and that either don't move or moved before
  pub in_turn : AreInTurn (shifts_of moves)

-- whether the moves say that the update leaves the graph as it is
abbrev pub is_kept : Moves → Bool
is_kept Kept = true
is_kept Plain = false
is_kept (Rise level rise shifts) = false
is_kept (Fall level fall) = false

-- what the certificate asks at one vertex: few later neighbours, and enough whose core number is no less
pub record HoldsAt (s : Ranked) (z : ℕ) : Type 0 where
  pub few_later : degree_among s.graph (drop (place_of z s.order + 1) s.order) z ≤ slice_index s.core z
  pub enough_as_high : slice_index s.core z ≤ degree_as_high s.graph s.core s.order z

-- whether the local test looks at the vertex: an end of the edge, a vertex that moves, or a neighbour of one that does
abbrev pub is_looked_at : Plan → SimpleGraph → ℕ → Bool
is_looked_at plan g z =
    (nat_eq z plan.update.u || nat_eq z plan.update.v) || (member z (moved_vertices plan.moves) || list_any (adjacent g z) (moved_vertices plan.moves))

-- The plan passes the local test in a state.
pub record IsLocal (s : Ranked) (plan : Plan) : Type 0 where
  pub ends : plan.update.v < s.graph.size
  -- the plan changes nothing exactly where the update is not applied
  pub kept : is_kept plan.moves ≡ not (is_applied plan.update s.graph)
  pub moves_fit : MovesFit s plan.moves
  pub holds : (z : ℕ) → z < s.graph.size → is_looked_at plan (state_after plan s).graph z ≡ true → HoldsAt (state_after plan s) z
