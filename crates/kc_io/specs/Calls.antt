-- The calls of a source or a sink in memory.
use Rattle.std.specs.Prelude.{ℕ, List, Bool, nat_eq, if◌then◌else◌}
use Rattle.std.specs.List.{list_any}
use Rattle.kc_io.specs.Causes.{one_more}

-- the numbers from 1 of the calls that are to fail, and how many were made and have failed
pub record CallsSoFar : Type 0 where
  pub fails : List ℕ
  pub made : ℕ
  pub failed : ℕ

-- whether the next call is one that is to fail
abbrev pub is_next_named : CallsSoFar → Bool
is_next_named calls = list_any (λ call. nat_eq call (one_more calls.made)) calls.fails

-- with one call more that was made
abbrev pub one_called : CallsSoFar → CallsSoFar
one_called calls = record calls { made = one_more calls.made }

-- with one call more that has failed
abbrev pub one_failed : CallsSoFar → CallsSoFar
one_failed calls = record calls { failed = one_more calls.failed }

-- after one more call, which fails or not
abbrev pub after_call : CallsSoFar → Bool → CallsSoFar
after_call calls fails = if fails then one_failed (one_called calls) else one_called calls
