-- How a reader counts the ids.
use Rattle.std.specs.Prelude.{Bool, true, false}
use Rattle.kc_text.specs.declared.look.Look.{Look}
use Rattle.kc_text.specs.declared.look.Look.TheVariants.{Quick, Exact}

-- whether it counts them at each line
abbrev pub is_exact : Look → Bool
is_exact Quick = false
is_exact Exact = true
