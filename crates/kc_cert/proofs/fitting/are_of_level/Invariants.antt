-- Each of the numbers so far is a vertex that has the level as its core number.
use Rattle.std.proofs.Common.{ℕ, ◌<◌, get_or}
use Rattle.kc_cert.specs.Local.{IsOfLevel}
use Rattle.kc_cert.proofs.fitting.are_of_level.Given as goal

abbrev pub invariant-loop-x : goal.invariant-loop-x
invariant-loop-x g l = (k : ℕ) → k < l.x-index → IsOfLevel (g.S.State.state l.state) l.level (get_or l.vertices k 0)
