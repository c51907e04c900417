-- The groups before the next have their sizes.
use Rattle.std.proofs.Common.{◌≡◌, ◌<◌, ℕ, get_or}
use Rattle.kc_list.specs.Tally.{opening_count}
use Rattle.kc_list.proofs.groups.fill_sizes.Given as goal

abbrev pub invariant-loop-g : goal.invariant-loop-g
invariant-loop-g l = (get_or l.sizes 0 0 ≡ get_or l.initial.sizes 0 0) × ((k : ℕ) → 0 < k → k < l.g → get_or l.sizes k 0 ≡ opening_count l.len k)
