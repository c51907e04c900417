-- Why a keeper refuses what it is asked.
use Rattle.std.specs.Prelude.{◌≡◌, ◌<◌, ◌≤◌, ℕ, List, All, Some, length, take, slice_get}
use Rattle.kc_graph.specs.SimpleGraph.{SimpleGraph}
use Rattle.kc_graph.specs.Lawful.{Ranked}
use Rattle.kc_graph.specs.declared.update.Update.{Update}
use Rattle.kc_words.specs.declared.layout.TheConstants.{VERTICES}
use Rattle.kc_keeper.specs.Batches.{made_in_turn}
use Rattle.kc_keeper.specs.declared.fault.OpenFault.{OpenFault}
use Rattle.kc_keeper.specs.declared.fault.OpenFault.TheVariants as opening
use Rattle.kc_keeper.specs.declared.fault.UpdateFault.{UpdateFault}
use Rattle.kc_keeper.specs.declared.fault.UpdateFault.TheVariants as updating
use Rattle.kc_keeper.specs.declared.fault.ApplyFault.{ApplyFault}
use Rattle.kc_keeper.specs.declared.fault.ApplyFault.TheVariants as applying
use Rattle.kc_keeper.specs.declared.fault.GrowFault.{GrowFault}
use Rattle.kc_keeper.specs.declared.fault.GrowFault.TheVariants as growing

-- each end of each update is a vertex
abbrev pub EndsAreWithin : ℕ → List Update → Type 0
EndsAreWithin size updates = All (λ u. u.v < size) updates

-- It was not opened: there are more vertices than there may be, or there is no memory.
abbrev pub IsOpenCause : ℕ → OpenFault → Type 0
IsOpenCause size (opening.TooManyVertices vertices) = (vertices ≡ size) × (VERTICES < size)
IsOpenCause size opening.NoMemory = size ≤ VERTICES

-- It did not grow: there would be more vertices than there may be, or fewer than there are, or there is no memory.
abbrev pub IsGrowCause : ℕ → ℕ → GrowFault → Type 0
IsGrowCause size wanted (growing.TooManyVertices vertices) = (vertices ≡ wanted) × (VERTICES < wanted)
IsGrowCause size wanted (growing.FewerVertices vertices now) = (vertices ≡ wanted) × (now ≡ size) × (wanted < size)
IsGrowCause size wanted growing.NoMemory = (size ≤ wanted) × (wanted ≤ VERTICES)

-- The update was not made: its greater end is no vertex, or there is no memory.
abbrev pub IsUpdateCause : ℕ → Update → UpdateFault → Type 0
IsUpdateCause size update (updating.NoVertex vertex) = (vertex ≡ update.v) × (size ≤ vertex)
IsUpdateCause size update updating.NoMemory = update.v < size

-- the update at this place has this greater end, which is no vertex, and each before it has two vertices
pub record IsFirstOutside (size : ℕ) (updates : List Update) (place vertex : ℕ) : Type 0 where
  pub update : Update
  pub here : slice_get updates place ≡ Some update
  pub vertex_is : vertex ≡ update.v
  pub outside : size ≤ vertex
  pub before : EndsAreWithin size (take place updates)

-- So many of the updates were made, in turn; there was no memory for the next one.
pub record IsStopped (old : SimpleGraph) (updates : List Update) (new : SimpleGraph) (made : ℕ) : Type 0 where
  pub within : EndsAreWithin old.size updates
  pub fewer : made < length updates
  pub graph : new ≡ made_in_turn old (take made updates)

-- The batch was not made, or not whole: an end is no vertex, and nothing has changed; or there was no memory for one of the updates.
abbrev pub IsApplyCause : Ranked → List Update → Ranked → ApplyFault → Type 0
IsApplyCause old updates new (applying.NoVertex place vertex) = IsFirstOutside old.graph.size updates place vertex × (new ≡ old)
IsApplyCause old updates new (applying.NoMemory made) = IsStopped old.graph updates new.graph made
