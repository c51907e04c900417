-- The rows so far lie in the part of the block up to where the last of them ends, and the rest of the block is as it was.
use Rattle.std.proofs.Common.{◌≡◌, ◌<◌, ◌≤◌, ℕ, length, take, drop, get_or}
use Rattle.std.specs.List.{between}
use Rattle.std.specs.List.Sorted.{IsStrictlyIncreasing}
use Rattle.kc_lists.specs.Lists.{member}
use Rattle.kc_graph.specs.Rows.{row}
use Rattle.kc_graph.specs.Blocks.{LieFrom, entries_of_each, first_of}
use Rattle.kc_graph.proofs.tidying.rows_in.Given as goal

abbrev pub invariant-loop-end : goal.invariant-loop-end
invariant-loop-end l =
    (length l.block ≡ length l.initial.block) × (length l.rows.items ≡ l.end-index) × (l.from ≡ first_of l.ends l.end-index)
    × (l.from ≤ length l.block) × (drop l.from l.block ≡ drop l.from l.initial.block) × LieFrom 0 (take l.from l.block) l.rows.items
    × ((v : ℕ) → IsStrictlyIncreasing (row (entries_of_each (take l.from l.block) l.rows.items) v))
    × ((v w : ℕ) → v < l.end-index → member w (row (entries_of_each (take l.from l.block) l.rows.items) v)
    ≡ member w (between (first_of l.ends v) (get_or l.ends v 0) l.initial.block))
