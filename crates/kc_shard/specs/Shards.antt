-- A shard: rows of vertices in one list of entries, cut by offsets (the form that is known as CSR).
use Rattle.std.specs.Prelude.{◌≡◌, ◌≤◌, ◌<◌, ◌+◌, ◌^◌, ◌==◌, ℕ, List, [], ◌∷◌, Option, None, Some, All, drop, length, map, nat_le, nat_lt}
use Rattle.std.specs.Prelude.{slice_index, if◌then◌else◌}
use Rattle.std.specs.List.{between, position}
use Rattle.std.specs.Option.{option_map}
use Rattle.kc_lists.specs.Lists.{total}
use Rattle.kc_shard.specs.HIndex.{h_index}
use Rattle.kc_shard.specs.declared.fault.ShardFault.{ShardFault}
use Rattle.kc_shard.specs.declared.fault.ShardFault.TheVariants.{WrongOffsetCount, FirstNotZero, Descending, LongRow, WrongLastOffset, NotAVertex}
use Rattle.kc_shard.specs.declared.round.RoundError.{RoundError}
use Rattle.kc_shard.specs.declared.round.RoundError.TheVariants.{Shard, NoMemory}

-- the entries of one row: `offsets` tells where each begins, which is where the one before it ends
abbrev pub shard_row : List ℕ → List ℕ → ℕ → List ℕ
shard_row offsets neighbours row = between (slice_index offsets row) (slice_index offsets (row + 1)) neighbours

-- The offsets cut the entries into so many rows, one after the other, none of them of 2^32 entries or more, and each entry is a vertex.
pub record IsShard (rows vertices : ℕ) (offsets neighbours : List ℕ) : Type 0 where
  pub one_more : length offsets ≡ rows + 1
  pub first : slice_index offsets 0 ≡ 0
  pub ascending : (row : ℕ) → row < rows → slice_index offsets row ≤ slice_index offsets (row + 1)
  pub short : (row : ℕ) → row < rows → slice_index offsets (row + 1) < slice_index offsets row + 2 ^ 32
  pub last : slice_index offsets rows ≡ length neighbours
  pub within : All (λ w. w < vertices) neighbours

-- what is wrong with a row that begins at the place `from` and ends before `to`
abbrev pub row_fault : ℕ → ℕ → ℕ → Option ShardFault
row_fault row from to =
    if nat_lt to from then Some (Descending (row + 1)) else (if nat_lt to (from + 2 ^ 32) then None else Some (LongRow row))

-- the first of two faults
abbrev pub or_fault : Option ShardFault → Option ShardFault → Option ShardFault
or_fault None rest = rest
or_fault (Some fault) rest = Some fault

-- the first fault of rows from `row` on, the first of which begins at the place `from`, where `ends` tells before which place each ends
abbrev pub rows_fault : ℕ → ℕ → List ℕ → Option ShardFault
rows_fault row from [] = None
rows_fault row from (to ∷ ends) = or_fault (row_fault row from to) (rows_fault (row + 1) to ends)

-- the first fault of the offsets of so many rows with so many entries
abbrev pub offsets_fault : ℕ → List ℕ → ℕ → Option ShardFault
offsets_fault rows offsets entries =
    if length offsets == rows + 1
    then (if slice_index offsets 0 == 0
    then or_fault (rows_fault 0 0 (drop 1 offsets)) (if slice_index offsets rows == entries then None else Some WrongLastOffset)
    else Some FirstNotZero)
    else Some WrongOffsetCount

-- the first fault of a shard: of its offsets, or else of its entries
abbrev pub shard_fault : ℕ → ℕ → List ℕ → List ℕ → Option ShardFault
shard_fault rows vertices offsets neighbours =
    or_fault (offsets_fault rows offsets (length neighbours)) (option_map NotAVertex (position (λ w. nat_le vertices w) neighbours))

-- why there was no round: the fault, or want of memory where there is none
abbrev pub error_by : Option ShardFault → RoundError
error_by None = NoMemory
error_by (Some fault) = Shard fault

-- Each row has the h-index of the numbers of its entries.
pub record IsShardRound (offsets neighbours numbers next : List ℕ) : Type 0 where
  pub one_each : length offsets ≡ length next + 1
  pub each : (row : ℕ) → row < length next → slice_index next row ≡ h_index (map (slice_index numbers) (shard_row offsets neighbours row))

-- at how many of the first `n` places the lists differ
abbrev pub differences : List ℕ → List ℕ → ℕ → ℕ
differences old new n = total (λ i. if slice_index old i == slice_index new i then 0 else 1) n
