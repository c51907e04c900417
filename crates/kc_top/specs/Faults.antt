-- How a count of faults moves in a run.
use Rattle.std.specs.Prelude.{◌≡◌, ◌≢◌, ℕ}
use Rattle.kc_io.specs.Causes.{Rose}
use Rattle.kc_top.specs.declared.Status.{Status}

-- the count of faults rose where a run ends by this fault, and else it is as it was
pub record RoseOnlyAt (fault status : Status) (before after : ℕ) : Type 0 where
  pub rose : status ≡ fault → Rose before after
  pub kept : status ≢ fault → after ≡ before
