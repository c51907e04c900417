-- A batch that has ended, and which ids it changes.
use Rattle.std.specs.Prelude.{◌≡◌, ◌≢◌, ◌<◌, ◌++◌, ℕ, true, List, [], ◌∷◌, None, Some, All, drop, length, map, nat_lt, slice_index, if◌then◌else◌}
use Rattle.std.specs.List.{flat_map, zip}
use Rattle.kc_lists.specs.Lists.{Distinct, member}
use Rattle.kc_graph.specs.SimpleGraph.{SimpleGraph}
use Rattle.kc_changes.specs.declared.id_change.IdChange.{IdChange}
use Rattle.kc_keeper.specs.Cores.{IsCoreChange, changed_vertices}
use Rattle.kc_keeper.specs.declared.changes.CoreChange.{CoreChange}
use Rattle.kc_watch.specs.Accounts.{Account, core_numbers_of, one_ended}

-- Of the vertices below `known` those are there whose number changes, each once, with both numbers. Others may be there too.
pub record AreMoves (known : ℕ) (old new : List ℕ) (changes : List CoreChange) : Type 0 where
  pub once : Distinct (changed_vertices changes)
  pub each : All (λ c. c.vertex < known → IsCoreChange old new c) changes
  pub all : (v : ℕ) → v < known → slice_index old v ≢ slice_index new v → member v (changed_vertices changes) ≡ true

-- the change of the id that a vertex stands for, where it is one of those that were known
abbrev pub known_change : List ℕ → ℕ → CoreChange → List IdChange
known_change ids known c =
    if nat_lt c.vertex known then (record { id = slice_index ids c.vertex; before = Some c.before; now = c.now }) ∷ [] else []

-- a new id, with its core number
abbrev pub new_change : ℕ × ℕ → IdChange
new_change pair = record { id = pair.0; before = None; now = pair.1 }

-- The changes of ids: those of vertices that were known, and then all new ids.
abbrev pub changes_of : List ℕ → ℕ → List ℕ → List CoreChange → List IdChange
changes_of ids known core changes = flat_map (known_change ids known) changes ++ map new_change (zip (drop known ids) (drop known core))

-- The account before a batch with this number, whose graph this is, where these are the ids behind it.
pub record IsAccountBefore (before : Account) (number : ℕ) (g : SimpleGraph) (ids : List ℕ) : Type 0 where
  pub number_is : number ≡ one_ended before.ended
  pub graph_is : before.graph ≡ g
  pub size : g.size ≡ length before.ids
  pub more : List ℕ
  pub grown : ids ≡ before.ids ++ more
  pub once : Distinct ids

-- A batch has ended between two accounts: so many ids were known before it; these are the ids behind it, their core numbers, and the
-- vertices whose numbers changed.
pub record HasEndedBetween (before after : Account) (known : ℕ) (ids core : List ℕ) (changes : List CoreChange) : Type 0 where
  pub known_is : known ≡ length before.ids
  pub ids_are : ids ≡ after.ids
  pub more : List ℕ
  pub grown : ids ≡ before.ids ++ more
  pub once : Distinct ids
  pub long : length core ≡ length ids
  pub core_is : core ≡ core_numbers_of after.graph
  pub moves : AreMoves known (core_numbers_of before.graph) core changes
