-- Core numbers from before a batch, while it is made.
use Rattle.std.specs.Prelude.{◌≡◌, ◌<◌, ℕ, true, false, List, All, length, slice_index}
use Rattle.kc_lists.specs.Lists.{member}
use Rattle.kc_graph.specs.declared.plan.Moves.{Moves}
use Rattle.kc_cert.specs.Stands.{leaving}
use Rattle.kc_keeper.specs.Cores.{changed_vertices}
use Rattle.kc_keeper.specs.declared.changes.CoreChange.{CoreChange}
use Rattle.kc_keeper.specs.declared.earlier.EarlierNumbers.{EarlierNumbers}

-- the place of each vertex of the list stands under it
abbrev pub AreIndexed : List ℕ → List ℕ → Type 0
AreIndexed places vertices = (i : ℕ) → i < length vertices → slice_index places (slice_index vertices i) ≡ i

-- a vertex with its number at the start of the batch
abbrev pub IsEarlier : List ℕ → CoreChange → Type 0
IsEarlier start c = (c.vertex < length start) × (c.before ≡ slice_index start c.vertex)

-- The batch began with the numbers `start`. Each vertex that has another number now is there, with its number at the start, and none twice.
pub record AreEarlier (start now : List ℕ) (earlier : EarlierNumbers) : Type 0 where
  pub long : length now ≡ length start
  pub each : All (IsEarlier start) earlier.cores.items
  pub indexed : AreIndexed earlier.places.items (changed_vertices earlier.cores.items)
  pub others : (v : ℕ) → member v (changed_vertices earlier.cores.items) ≡ false → slice_index now v ≡ slice_index start v

-- however the batch began, what is kept stays right from these core numbers to those
abbrev pub KeepsEarlier : List ℕ → List ℕ → EarlierNumbers → EarlierNumbers → Type 0
KeepsEarlier before after old new = (start : List ℕ) → AreEarlier start before old → AreEarlier start after new

-- The moves change the numbers of those vertices alone that leave their level.
pub record Renumbers (moves : Moves) (old new : List ℕ) : Type 0 where
  pub long : length new ≡ length old
  pub others : (v : ℕ) → member v (leaving moves) ≡ false → slice_index new v ≡ slice_index old v

-- each vertex whose number the moves change is there
abbrev pub AreKept : Moves → EarlierNumbers → Type 0
AreKept moves earlier = All (λ v. member v (changed_vertices earlier.cores.items) ≡ true) (leaving moves)

-- the change with the number that its vertex has now
abbrev pub with_number_now : List ℕ → CoreChange → CoreChange
with_number_now core c = record c { now = slice_index core c.vertex }
