-- When a plan is right wherever its answers are.
use Rattle.std.specs.Prelude.{◌≡◌, ◌<◌, ◌⊎◌, ◌++◌, ℕ, Bool, true, false, List, [], slice_index, nat_lt, All, if◌then◌else◌}
use Rattle.std.specs.List.{list_any}
use Rattle.kc_lists.specs.Lists.{member, Distinct, place_of}
use Rattle.kc_graph.specs.Core.{AreCoreNumbers}
use Rattle.kc_graph.specs.Lawful.{Ranked, IsCertified}
use Rattle.kc_graph.specs.Plans.{is_applied, updated}
use Rattle.kc_graph.specs.SimpleGraph.{SimpleGraph}
use Rattle.kc_graph.specs.declared.update.Update.{Update}
use Rattle.kc_graph.specs.declared.used.Used.{Used}
use Rattle.kc_graph.specs.declared.plan.Plan.{Plan}
use Rattle.kc_graph.specs.declared.plan.Moves.{Moves}
use Rattle.kc_graph.specs.declared.plan.Moves.TheVariants.{Kept, Plain, Rise, Fall}
use Rattle.kc_cert.specs.Local.{IsLocal, moved_vertices, seconds}
use Rattle.kc_view.specs.Answers.{Answers, Agrees, answers_in, has_list, list_of}
use Rattle.kc_view.specs.Search.{Forward, search_in}

-- Of two vertices, the one of the lesser core number, or where these are equal the one that stands first.
abbrev pub lesser_of : Ranked → ℕ → ℕ → ℕ
lesser_of s u v =
    if nat_lt (slice_index s.core u) (slice_index s.core v) then u
    else if nat_lt (slice_index s.core v) (slice_index s.core u) then v
    else if nat_lt (place_of u s.order) (place_of v s.order) then u
    else v

-- the lesser of the ends of an update's edge: a search begins there
abbrev pub root_of : Ranked → Update → ℕ
root_of s update = lesser_of s update.u update.v

-- What walks from the root reach in the graph `after`, along the order of a state and on the root's level.
abbrev pub IsReached : Ranked → SimpleGraph → ℕ → ℕ → Type 0
IsReached s after root x = Forward (search_in after s (slice_index s.core root)) root x

-- The vertices that a new edge may concern: those that such walks reach from its root, in the graph with it.
abbrev pub InForward : Ranked → Update → ℕ → Type 0
InForward s update x = IsReached s (updated update s.graph) (root_of s update) x

-- An edge with this root is to be added, or else removed, and the graph is `after` then. So no more is moved than should be: each vertex
-- once, and nothing where this changes nothing; for a removal exactly the vertices whose core number falls; for an insertion vertices
-- that the new edge concerns.
pub record MovesSparingly (s : Ranked) (after : SimpleGraph) (add changes : Bool) (root : ℕ) (moved : List ℕ) : Type 0 where
  pub once : Distinct moved
  pub kept : changes ≡ false → moved ≡ []
  pub inserted : add ≡ true → (x : ℕ) → member x moved ≡ true → IsReached s after root x
  pub removed : add ≡ false → changes ≡ true → (core : List ℕ) → AreCoreNumbers after core
      → (x : ℕ) → x < s.graph.size → member x moved ≡ nat_lt (slice_index core x) (slice_index s.core x)

-- a plan moves no more than its update should
pub record IsSparing (s : Ranked) (plan : Plan) : Type 0 where
  pub moves : MovesSparingly s (updated plan.update s.graph) plan.update.add (is_applied plan.update s.graph) (root_of s plan.update)
      (moved_vertices plan.moves)

-- In every certified state that has the ends of the edge and of which its answers are true, the plan passes the local test and moves no
-- more than it should.
abbrev pub IsSure : Plan → Type 0
IsSure plan = (s : Ranked) → IsCertified s → plan.update.v < s.graph.size → Agrees (answers_in plan.used) s → IsLocal s plan × IsSparing s plan

-- In every certified state that has the ends of the edge and of which the answers are true, these moves pass the local test and move no
-- more than they should, whatever else the plan keeps.
abbrev pub AreSure : Update → Answers → Moves → Type 0
AreSure update a moves = (s : Ranked) (used : Used) → IsCertified s → update.v < s.graph.size → Agrees a s
    → IsLocal s (record { update = update; used = used; moves = moves }) × IsSparing s (record { update = update; used = used; moves = moves })

-- the vertices after which moves put others
abbrev pub anchors : Moves → List ℕ
anchors Kept = []
anchors Plain = []
anchors (Rise level rise shifts) = seconds shifts.items
anchors (Fall level fall) = []

-- all vertices that the moves name had their lists read
abbrev pub WereNamedRead : Answers → Moves → Type 0
WereNamedRead a moves = (x : ℕ) → member x (moved_vertices moves ++ anchors moves) ≡ true → has_list a x ≡ true

-- the moves of a plan name only vertices whose lists it has read
abbrev pub NamesOnlyRead : Plan → Type 0
NamesOnlyRead plan = WereNamedRead (answers_in plan.used) plan.moves

-- of all lists, core numbers and orders just the list of `w` was asked
pub record AsksOneList (a : Answers) (w : ℕ) : Type 0 where
  pub lists : All (λ e. e.vertex ≡ w) a.edges
  pub cores : a.places ≡ []
  pub orders : a.orders ≡ []

-- whether a list that was told has `y`
abbrev pub is_listed : Answers → ℕ → Bool
is_listed a y = list_any (λ e. member y e.neighbours) a.edges

-- core numbers are asked only of the ends and of neighbours of vertices whose lists were asked
abbrev pub AsksCores : Update → Answers → Type 0
AsksCores update a = All (λ p. (p.vertex ≡ update.u) ⊎ (p.vertex ≡ update.v) ⊎ (is_listed a p.vertex ≡ true)) a.places

-- a plan has asked core numbers only of the ends and of neighbours of vertices whose lists it asked
abbrev pub AsksCoresNearby : Plan → Type 0
AsksCoresNearby plan = AsksCores plan.update (answers_in plan.used)

-- What any planner answers for this update: a sure plan of it, whose moves name only vertices whose lists it has read, and which has
-- asked core numbers only nearby.
pub record IsPlanFor (asked : Update) (plan : Plan) : Type 0 where
  pub update : plan.update ≡ asked
  pub sure : IsSure plan
  pub named : NamesOnlyRead plan
  pub cores : AsksCoresNearby plan

-- where the answers are those of one state, lists are asked only of the lesser end and of vertices that the new edge concerns
abbrev pub AsksForward : Plan → Type 0
AsksForward plan =
    (s : Ranked) → IsCertified s → Agrees (answers_in plan.used) s
    → All (λ e. (e.vertex ≡ plan.update.u) ⊎ InForward s plan.update e.vertex) plan.used.edges.items

-- lists are asked only of the ends and of neighbours of the vertices that fall, and no order is asked
pub record AsksFallen (plan : Plan) : Type 0 where
  pub edges : All
      (λ e.
      (e.vertex ≡ plan.update.u) ⊎ (e.vertex ≡ plan.update.v)
      ⊎ (list_any (λ x. member e.vertex (list_of (answers_in plan.used) x)) (moved_vertices plan.moves) ≡ true))
      plan.used.edges.items
  pub orders : plan.used.orders.items ≡ []
