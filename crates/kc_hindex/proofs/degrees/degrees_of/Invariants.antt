-- The vertices before `v` have their degrees in the list, which are their numbers before any round.
use Rattle.std.proofs.Common.{◌≡◌, ◌<◌, ℕ, length, get_or}
use Rattle.kc_hindex.specs.Rounds.{after_rounds}
use Rattle.kc_hindex.proofs.degrees.degrees_of.Given as goal

abbrev pub invariant-loop-v : goal.invariant-loop-v
invariant-loop-v l = (length l.degrees.items ≡ l.v) × ((u : ℕ) → u < l.v → get_or l.degrees.items u 0 ≡ after_rounds l.graph 0 u)
