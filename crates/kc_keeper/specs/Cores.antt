-- Which vertices have another core number than before.
use Rattle.std.specs.Prelude.{◌≡◌, ◌≢◌, ℕ, List, All, Contains, map, slice_index}
use Rattle.std.specs.List.Sorted.{IsStrictlyIncreasing}
use Rattle.kc_keeper.specs.declared.changes.CoreChange.{CoreChange}

-- the vertices of changes
abbrev pub changed_vertices : List CoreChange → List ℕ
changed_vertices changes = map (λ c. c.vertex) changes

-- Between these two lists of numbers by vertex, the number of the vertex changes, from one to the other.
pub record IsCoreChange (old new : List ℕ) (c : CoreChange) : Type 0 where
  pub before : c.before ≡ slice_index old c.vertex
  pub now : c.now ≡ slice_index new c.vertex
  pub differs : c.before ≢ c.now

-- Each vertex whose number changes is there, once, in ascending order, and no other.
pub record AreCoreChanges (old new : List ℕ) (changes : List CoreChange) : Type 0 where
  pub ascending : IsStrictlyIncreasing (changed_vertices changes)
  pub each : All (IsCoreChange old new) changes
  pub all : (v : ℕ) → slice_index old v ≢ slice_index new v → Contains (changed_vertices changes) v
