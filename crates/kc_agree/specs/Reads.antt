-- What was read of a table, at different moments: each list, core number and order was so after some prefix of the log.
use Rattle.std.specs.Prelude.{◌≡◌, ◌≢◌, ◌≤◌, ◌<◌, ◌+◌, ◌⊎◌, ℕ, Bool, List, All, true, false}
use mathlib.Core.List.{IsPrefix}
use Rattle.kc_graph.specs.SimpleGraph.{SimpleGraph}
use Rattle.kc_graph.specs.Neighbours.{AreNeighbours}
use Rattle.kc_graph.specs.declared.plan.Plan.{Plan}
use Rattle.kc_graph.specs.declared.used.UsedEdges.{UsedEdges}
use Rattle.kc_graph.specs.declared.used.UsedPlace.{UsedPlace}
use Rattle.kc_graph.specs.declared.used.UsedOrder.{UsedOrder}
use Rattle.kc_view.specs.Answers.{Answers, answers_in, has_core}
use Rattle.kc_view.specs.declared.fault.ViewFault.{ViewFault}
use Rattle.kc_view.specs.declared.fault.ViewFault.TheVariants.{Miss, NoMemory}
use Rattle.kc_table.specs.declared.view.Event.{Event}
use Rattle.kc_table.specs.Edges.{edges_after}
use Rattle.kc_words.specs.VertexWord.{vertex_word}
use Rattle.kc_words.specs.declared.again.Again.{Again}
use Rattle.kc_table.specs.Log.{PassSeen, TableName, value_at}
use Rattle.kc_table.specs.TableState.{first_vertex}
use Rattle.kc_order.specs.Standing.{Compares, StandsBefore, StoodBefore, list_after}
use Rattle.kc_order.specs.declared.answer.Answer.{Answer}
use Rattle.kc_order.specs.declared.answer.Answer.TheVariants as answer
use Rattle.kc_agree.specs.Stamps.{core_after, number_of, place_stamp}

-- a list of a vertex: after the first `at` entries, all of which the log holds, these were its neighbours
pub record WasList (table : TableName) (opened : SimpleGraph) (log : List Event) (e : UsedEdges) : Type 0 where
  pub vertex : e.vertex < table.shape.fixed
  pub at : e.at ≤ number_of table log
  pub list : AreNeighbours (edges_after opened table.shape table.opening log e.at) e.vertex e.neighbours

-- a place of a vertex: after some prefix of the log its word had this stamp and this core number
pub record WasPlace (table : TableName) (log : List Event) (p : UsedPlace) : Type 0 where
  pub vertex : p.vertex < table.shape.fixed
  pub prefix : List Event
  pub begins : IsPrefix prefix log
  pub stamp : place_stamp table prefix p.vertex ≡ p.stamp
  pub core : core_after table prefix p.vertex ≡ p.core

-- the answer is how the two items stand in the list
pub record IsTrueOrder (list : List ℕ) (o : UsedOrder) : Type 0 where
  pub before : o.before ≡ true → StandsBefore o.x o.y list
  pub after : o.before ≡ false → StandsBefore o.y o.x list

-- An order of two vertices, the places of both of which were read: after some prefix of the log the two stood so. All that was read of
-- their places was so after prefixes of that prefix.
pub record WasOrder (table : TableName) (log : List Event) (a : Answers) (o : UsedOrder) : Type 0 where
  pub differ : o.x ≢ o.y
  pub first_read : has_core a o.x ≡ true
  pub second_read : has_core a o.y ≡ true
  pub prefix : List Event
  pub begins : IsPrefix prefix log
  pub stood : IsTrueOrder (list_after table prefix) o
  pub read_before : All (λ p. (p.vertex ≡ o.x) ⊎ (p.vertex ≡ o.y) → WasPlace table prefix p) a.places

-- All answers were so after prefixes of the log of a table that opened with these edges. They may be answers of different moments.
pub record WereRead (table : TableName) (opened : SimpleGraph) (log : List Event) (a : Answers) : Type 0 where
  pub edges : All (WasList table opened log) a.edges
  pub places : All (WasPlace table log) a.places
  pub orders : All (WasOrder table log a) a.orders

-- all that a plan has used was read so
abbrev pub From : Plan → TableName → SimpleGraph → List Event → Type 0
From plan table opened log = WereRead table opened log (answers_in plan.used)

-- the place of a vertex as it is after the log
abbrev pub place_after : TableName → List Event → ℕ → UsedPlace
place_after table log v = record { vertex = v; stamp = place_stamp table log v; core = core_after table log v }

-- the word of a vertex with the stamp and the core number of this place
abbrev pub word_of_place : UsedPlace → ℕ
word_of_place p = vertex_word (record { stamp = p.stamp; core = p.core })

-- The word of a vertex, which was read as this place, has another value after the log: which word, that value, and the one that it has.
pub record IsOtherPlace (table : TableName) (log : List Event) (p : UsedPlace) (again : Again) : Type 0 where
  pub word : again.word ≡ first_vertex table.shape + p.vertex
  pub first : again.first ≡ word_of_place p
  pub second : again.second ≡ value_at table.opening log again.word
  pub differ : again.first ≢ again.second

-- x stood before y, or y before x, after a prefix between the two
abbrev pub StoodSo : TableName → List Event → List Event → ℕ → ℕ → Bool → Type 0
StoodSo table old new x y true = StoodBefore table old new x y
StoodSo table old new x y false = StoodBefore table old new y x

-- what a comparison answers that finds the first of two before the second, or behind it
abbrev pub order_answer : Bool → Answer
order_answer true = answer.Before
order_answer false = answer.After

-- Why the order of two vertices was not read: a word differed between its two loads, or the comparison was sure and there was no
-- memory to keep its answer.
abbrev pub HasOrderCause : PassSeen → PassSeen → ℕ → ℕ → ViewFault → Type 0
HasOrderCause old new x y (Miss again) = Compares old new x y (answer.Again again)
HasOrderCause old new x y NoMemory = (before : Bool) × Compares old new x y (order_answer before)
