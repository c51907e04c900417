-- One head after another.
use Rattle.std.proofs.Common.{◌≡◌, ◌++◌, ◌-◌}
use Rattle.kc_levels.specs.Heads.{parts_from, no_part}
use Rattle.kc_levels.proofs.levels.push_heads.Given as goal

abbrev pub invariant-loop-level : goal.invariant-loop-level
invariant-loop-level l = l.list.items ≡ l.fn.list.items ++ parts_from l.size no_part l.from (l.level - l.from)
