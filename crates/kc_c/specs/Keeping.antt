-- What the calls do with a keeper at a place, and what they answer.
use Rattle.std.specs.Prelude.{◌≡◌, ◌≢◌, ◌<◌, ◌&&◌, ◌||◌, ◌==◌, not, ℕ, true, List, length, take, nat_lt, slice_index, Option, Some, None, is_some, Err}
use Rattle.std.specs.Prelude.{◌≤◌, ◌-◌, [], MatchOption, drop, min, if◌then◌else◌}
use Rattle.kc_lists.specs.Lists.{place_of}
use Rattle.kc_graph.specs.SimpleGraph.{SimpleGraph}
use Rattle.kc_graph.specs.Bulk.{graph_with}
use Rattle.kc_graph.specs.Certificate.{Certifies}
use Rattle.kc_graph.specs.Core.{AreCoreNumbers}
use Rattle.kc_graph.specs.Growing.{grown, with_vertices}
use Rattle.kc_graph.specs.Lawful.{Ranked, IsCertified}
use Rattle.kc_graph.specs.declared.bulk.Edge.{Edge}
use Rattle.kc_words.specs.declared.layout.TheConstants.{VERTICES}
use Rattle.kc_keeper.specs.Cores.{AreCoreChanges}
use Rattle.kc_keeper.specs.Members.{AreCoreMembers}
use Rattle.kc_keeper.specs.declared.changes.CoreChange.{CoreChange}
use Rattle.kc_c.specs.Answers.{answer_to, first_stranger}
use Rattle.kc_c.specs.Updating.{after_all_given, after_given, are_vertices, count_changing, first_outsider, is_changing}
use Rattle.kc_c.specs.declared.answer.CallResult.{CallResult}
use Rattle.kc_c.specs.declared.keeping.Content.{Content}
use Rattle.kc_c.specs.declared.answer.Refusal.TheVariants.{NotOpen}
use Rattle.kc_c.specs.declared.updates.GivenUpdate.{GivenUpdate}

-- The graph is this one, the order certifies the numbers, and they are its core numbers.
pub record IsKept (g : SimpleGraph) (k : Ranked) : Type 0 where
  pub graph : k.graph ≡ g
  pub certified : IsCertified k
  pub seidman : AreCoreNumbers k.graph k.core

-- A keeper of this graph lies there.
abbrev pub Keeps : Option Ranked → SimpleGraph → Type 0
Keeps (Some k) g = IsKept g k
Keeps None g = ⊥

-- A keeper of the listed edges' graph lies there at status 0, and none else. No changes are told.
pub record Opens (now : Content) (vertices : ℕ) (edges : List Edge) (answer : CallResult) : Type 0 where
  pub known : (answer.status == 0 || answer.status == 4 || answer.status == 5 || answer.status == 15) ≡ true
  pub done : answer.status ≡ 0 → Keeps now.keeper (graph_with vertices edges)
  pub empty : answer.status ≢ 0 → now.keeper ≡ None
  pub untold : now.changes.cores.items ≡ []
  pub too_many : answer.status == 15 ≡ nat_lt VERTICES vertices
  pub stranger : answer.status == 4 ≡ (not (nat_lt VERTICES vertices) && is_some (first_stranger vertices edges))
  pub place : answer.status ≡ 4 → first_stranger vertices edges ≡ Some answer.number
  pub no_place : answer.status ≢ 4 → answer.number ≡ 0

-- the answer where no keeper lies at the place
abbrev pub not_open : CallResult
not_open = answer_to (Err NotOpen)

-- A keeper becomes another in this way. Where there is none, there is none afterwards, and the answer says so.
abbrev pub AtKeeper : (Ranked → Ranked → CallResult → Type 0) → Option Ranked → Option Ranked → CallResult → Type 0
AtKeeper Becomes (Some old) (Some new) answer = Becomes old new answer
AtKeeper Becomes (Some old) None answer = ⊥
AtKeeper Becomes None (Some new) answer = ⊥
AtKeeper Becomes None None answer = answer ≡ not_open

-- The keeper that lies there becomes another in this way, and what is told of the last batch stays.
abbrev pub AtPlace : (Ranked → Ranked → CallResult → Type 0) → Content → Content → CallResult → Type 0
AtPlace Becomes old new answer = AtKeeper Becomes old.keeper new.keeper answer × (new.changes ≡ old.changes)

-- The keeper is of the graph after the update at status 0, and `number` is 1 where that is another graph; else all is as it was.
pub record IsUpdatedBy (update : GivenUpdate) (old new : Ranked) (answer : CallResult) : Type 0 where
  pub known : (answer.status == 0 || answer.status == 4 || answer.status == 5) ≡ true
  pub done : answer.status ≡ 0 → IsKept (after_given update old.graph) new
  pub number : answer.status ≡ 0 → answer.number ≡ (if is_changing update old.graph then 1 else 0)
  pub same : answer.status ≢ 0 → new ≡ old
  pub no_number : answer.status ≢ 0 → answer.number ≡ 0
  pub stranger : answer.status == 4 ≡ not (are_vertices old.graph.size update)

-- The keeper is of the graph after all updates at status 0, and `number` counts those that changed the graph. At status 5 `number` of them
-- are made, in turn, and at any other status none.
pub record IsUpdatedByAll (updates : List GivenUpdate) (old new : Ranked) (answer : CallResult) : Type 0 where
  pub known : (answer.status == 0 || answer.status == 4 || answer.status == 5) ≡ true
  pub done : answer.status ≡ 0 → IsKept (after_all_given old.graph updates) new
  pub number : answer.status ≡ 0 → answer.number ≡ count_changing old.graph updates
  pub stopped : answer.status ≡ 5 → IsKept (after_all_given old.graph (take answer.number updates)) new
  pub fewer : answer.status ≡ 5 → answer.number < length updates
  pub same : answer.status ≡ 4 → new ≡ old
  pub stranger : answer.status == 4 ≡ is_some (first_outsider old.graph.size updates)
  pub place : answer.status ≡ 4 → first_outsider old.graph.size updates ≡ Some answer.number

-- The batch is made of the keeper that lies there, and the changes tell each vertex whose core number is another one after the call.
pub record AppliesTo (updates : List GivenUpdate) (told : List CoreChange) (old new : Ranked) (answer : CallResult) : Type 0 where
  pub made : IsUpdatedByAll updates old new answer
  pub told_are : AreCoreChanges old.core new.core told

-- The batch is made of the keeper that lies there, and what it changed is told.
abbrev pub AppliesAt : List GivenUpdate → Content → Content → CallResult → Type 0
AppliesAt updates old new answer = AtKeeper (AppliesTo updates new.changes.cores.items) old.keeper new.keeper answer

-- how many of the changes from a place on there is room for
abbrev pub count_told : List CoreChange → ℕ → ℕ → ℕ
count_told told from room = min room (length told - from)

-- The list begins with the changes from a place on, as many as there are or as it has room for, and is else what it was. `number` is how
-- many changes there are in all.
pub record AreTold (told : List CoreChange) (from : ℕ) (old new : List CoreChange) (answer : CallResult) : Type 0 where
  pub known : answer.status ≡ 0
  pub number : answer.number ≡ length told
  pub written : take (count_told told from (length old)) new ≡ take (count_told told from (length old)) (drop from told)
  pub rest : drop (count_told told from (length old)) new ≡ drop (count_told told from (length old)) old

-- The changes are told of a keeper that lies there. Where none lies there, the list is as it was.
abbrev pub ChangesAt : Content → ℕ → List CoreChange → List CoreChange → CallResult → Type 0
ChangesAt content from old new answer =
    MatchOption content.keeper ((new ≡ old) × (answer ≡ not_open)) (λ _. AreTold content.changes.cores.items from old new answer)

-- The keeper has so many vertices at status 0: the new ones have no edges and core number 0, and the others keep their core numbers and
-- their order. Else all is as it was.
pub record IsGrownTo (vertices : ℕ) (old new : Ranked) (answer : CallResult) : Type 0 where
  pub known : (answer.status == 0 || answer.status == 5 || answer.status == 15 || answer.status == 16) ≡ true
  pub done : answer.status ≡ 0 → new ≡ grown vertices old
  pub kept : answer.status ≡ 0 → IsKept (with_vertices vertices old.graph) new
  pub same : answer.status ≢ 0 → new ≡ old
  pub no_number : answer.number ≡ 0
  pub too_many : answer.status == 15 ≡ nat_lt VERTICES vertices
  pub too_few : answer.status == 16 ≡ (not (nat_lt VERTICES vertices) && nat_lt vertices old.graph.size)

-- The list has the core numbers of the keeper's graph at status 0, and else what it had.
pub record AreRead (k : Ranked) (old new : List ℕ) (answer : CallResult) : Type 0 where
  pub known : (answer.status == 0 || answer.status == 1) ≡ true
  pub done : answer.status ≡ 0 → new ≡ k.core
  pub seidman : answer.status ≡ 0 → AreCoreNumbers k.graph new
  pub same : answer.status ≢ 0 → new ≡ old
  pub no_number : answer.number ≡ 0
  pub core_length : answer.status == 1 ≡ not (length old == k.graph.size)

-- The core numbers of the keeper that lies there are read into the list. Where none lies there, the list is as it was.
abbrev pub NumbersAt : Option Ranked → List ℕ → List ℕ → CallResult → Type 0
NumbersAt (Some k) old new answer = AreRead k old new answer
NumbersAt None old new answer = (new ≡ old) × (answer ≡ not_open)

-- `number` is the vertex's core number at status 0, by numbers that are the core numbers.
pub record TellsNumber (k : Ranked) (v : ℕ) (answer : CallResult) : Type 0 where
  pub known : (answer.status == 0 || answer.status == 4) ≡ true
  pub done : answer.status ≡ 0 → answer.number ≡ slice_index k.core v
  pub seidman : answer.status ≡ 0 → AreCoreNumbers k.graph k.core
  pub no_number : answer.status ≢ 0 → answer.number ≡ 0
  pub stranger : answer.status == 4 ≡ not (nat_lt v k.graph.size)

-- The core number is told of the keeper that lies there.
abbrev pub NumberAt : Option Ranked → ℕ → CallResult → Type 0
NumberAt (Some k) v answer = TellsNumber k v answer
NumberAt None v answer = answer ≡ not_open

-- `number` is 1 at status 0 where the first vertex stands before the second in the order, and else 0.
pub record IsBefore (k : Ranked) (u v : ℕ) (answer : CallResult) : Type 0 where
  pub known : (answer.status == 0 || answer.status == 4) ≡ true
  pub done : answer.status ≡ 0 → answer.number ≡ (if nat_lt (place_of u k.order) (place_of v k.order) then 1 else 0)
  pub no_number : answer.status ≢ 0 → answer.number ≡ 0
  pub stranger : answer.status == 4 ≡ not (nat_lt u k.graph.size && nat_lt v k.graph.size)

-- Places are compared in the order of the keeper that lies there.
abbrev pub IsBeforeAt : Option Ranked → ℕ → ℕ → CallResult → Type 0
IsBeforeAt (Some k) u v answer = IsBefore k u v answer
IsBeforeAt None u v answer = answer ≡ not_open

-- The list begins with the members of the k-core at status 0, `number` of them, and is else what it was.
pub record AreMembers (kept : Ranked) (k : ℕ) (old new : List ℕ) (answer : CallResult) : Type 0 where
  pub known : (answer.status == 0 || answer.status == 3) ≡ true
  pub done : answer.status ≡ 0 → AreCoreMembers kept.graph k (take answer.number new)
  pub places : answer.number ≤ length new
  pub rest : drop answer.number new ≡ drop answer.number old
  pub same : answer.status ≢ 0 → new ≡ old
  pub no_number : answer.status ≢ 0 → answer.number ≡ 0
  pub members_length : answer.status == 3 ≡ not (length old == kept.graph.size)

-- The members are those of the keeper that lies there. Where none lies there, the list is as it was.
abbrev pub MembersAt : Option Ranked → ℕ → List ℕ → List ℕ → CallResult → Type 0
MembersAt (Some kept) k old new answer = AreMembers kept k old new answer
MembersAt None k old new answer = (new ≡ old) × (answer ≡ not_open)

-- The list has the vertices in the order that certifies the numbers at status 0, and else what it had.
pub record IsOrder (kept : Ranked) (old new : List ℕ) (answer : CallResult) : Type 0 where
  pub known : (answer.status == 0 || answer.status == 2 || answer.status == 5) ≡ true
  pub done : answer.status ≡ 0 → new ≡ kept.order
  pub certified : answer.status ≡ 0 → Certifies kept.graph kept.core new
  pub same : answer.status ≢ 0 → new ≡ old
  pub no_number : answer.number ≡ 0
  pub order_length : answer.status == 2 ≡ not (length old == kept.graph.size)

-- The order is that of the keeper that lies there. Where none lies there, the list is as it was.
abbrev pub OrderAt : Option Ranked → List ℕ → List ℕ → CallResult → Type 0
OrderAt (Some kept) old new answer = IsOrder kept old new answer
OrderAt None old new answer = (new ≡ old) × (answer ≡ not_open)
