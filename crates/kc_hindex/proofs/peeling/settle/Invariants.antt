-- The numbers are those after `changing` rounds, none of which settled, so that the sum of the numbers fell by at least one in each.
use Rattle.std.proofs.Common.{◌≤◌, ◌+◌, ℕ, length}
use Rattle.kc_lists.specs.Lists.{total}
use Rattle.kc_hindex.specs.Pieces.{AreDealt, AreReady}
use Rattle.kc_hindex.specs.Rounds.{after_rounds, HasRound, IsSettled}
use Rattle.kc_hindex.proofs.peeling.settle.Given as goal

-- The numbers are those after `changing` rounds. None of these settled, and the sum of the numbers has fallen by one at least in each.
abbrev pub invariant-loop-changing : goal.invariant-loop-changing
invariant-loop-changing g l = HasRound l.graph l.changing l.numbers × ((s : ℕ) → IsSettled l.graph s → l.changing ≤ s)
    × (l.changing + total (after_rounds l.graph l.changing) l.graph.size ≤ total (after_rounds l.graph 0) l.graph.size)
    × AreReady l.graph l.numbers l.crossed × AreDealt l.graph.size (length l.crossed) l.pieces

abbrev pub decreases-loop-changing : goal.decreases-loop-changing
decreases-loop-changing g l = total (after_rounds l.graph l.changing) l.graph.size
