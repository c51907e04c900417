-- When a call may answer that the outside failed, and how faults are counted.
use Rattle.std.specs.Prelude.{◌≡◌, ◌≤◌, ◌+◌, ◌-◌, ◌^◌, ℕ, min, OnErr, OnOk, Result, is_err, if◌then◌else◌}

-- one more, up to the last value of a `u64`
abbrev pub one_more : ℕ → ℕ
one_more count = min (count + 1) (2 ^ 64 - 1)

-- the count has risen, or stands at the last value of its type
abbrev pub Rose : ℕ → ℕ → Type 0
Rose before after = one_more before ≤ after

-- the count has not fallen, an error comes only where it rose, and where there is no error it is as it was
pub record HasCause {T E : Type 0} (before after : ℕ) (result : Result T E) : Type 0 where
  pub later : before ≤ after
  pub failed : OnErr result (Rose before after)
  pub kept : OnOk result (after ≡ before)

-- the count after a call with this result: an error adds one, and nothing else changes it
abbrev pub faults_after : {T E : Type 0} → ℕ → Result T E → ℕ
faults_after before result = if is_err result then one_more before else before
