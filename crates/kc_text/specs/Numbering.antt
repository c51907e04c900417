-- What is kept of the numbers of lines.
use Rattle.std.specs.Prelude.{◌≡◌, ◌≤◌, ◌<◌, ◌+◌, ℕ, All, List, length, slice_index_or}
use Rattle.kc_text.specs.declared.line.TextLine.{TextLine}
use Rattle.kc_text.specs.declared.line_numbers.LineNumbers.{LineNumbers}
use Rattle.kc_text.specs.TellingLines.{numbers, skipped_at}

-- these lines were counted, and the number of each that tells something can be found
pub record HasNumbers (kept : LineNumbers) (all : List TextLine) : Type 0 where
  pub lines : kept.lines ≡ length all
  pub telling : kept.telling ≡ length (numbers 0 all)
  pub each : (place : ℕ) → place < kept.telling → slice_index_or (numbers 0 all) place 0 ≡ place + 1 + skipped_at kept.steps.items place
  pub next : skipped_at kept.steps.items kept.telling ≡ kept.skipped
  pub below : All (λ step. step.0 ≤ kept.telling) kept.steps.items

-- The steps tell how many lines are skipped before the next telling line too, and as before at the others.
pub record IsNoted (old new : LineNumbers) : Type 0 where
  pub lines : new.lines ≡ old.lines
  pub telling : new.telling ≡ old.telling
  pub skipped : new.skipped + old.telling ≡ old.lines
  pub here : skipped_at old.steps.items old.telling ≡ old.skipped → skipped_at new.steps.items old.telling ≡ new.skipped
  pub before : (place : ℕ) → place < old.telling → skipped_at new.steps.items place ≡ skipped_at old.steps.items place
  pub below : All (λ step. step.0 ≤ old.telling) old.steps.items → All (λ step. step.0 ≤ old.telling) new.steps.items
