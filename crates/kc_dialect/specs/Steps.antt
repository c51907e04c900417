-- What a rewriter of lines has read, one line after another.
use Rattle.std.specs.Prelude.{◌≡◌, ◌≤◌, ◌+◌, ℕ, List, [], ◌∷◌, ◌++◌, length}
use Rattle.kc_dialect.specs.declared.bad_line.BadLine.{BadLine}
use Rattle.kc_dialect.specs.declared.dialect.Dialect.{Dialect}
use Rattle.kc_dialect.specs.declared.dialect.BadLines.TheVariants.{Stop}
use Rattle.kc_dialect.specs.declared.line_rewriter.LineRewriter.{LineRewriter}
use Rattle.kc_dialect.specs.Dialects.{bad_lines_after, plain_lines}
use Rattle.kc_dialect.specs.Skipped.{AreSkipped}

-- a rewriter has read these lines, and put their plain lines behind the text before
pub record TookLines (old new : LineRewriter) (before after : List ℕ) (read : List (List ℕ)) : Type 0 where
  pub text : after ≡ before ++ plain_lines old.dialect old.lines read
  pub lines : new.lines ≡ old.lines + length read
  pub dialect : new.dialect ≡ old.dialect
  pub skipped : (bad : List BadLine) → AreSkipped old.skipped bad → AreSkipped new.skipped (bad ++ bad_lines_after old.dialect old.lines read)
  pub unbroken : old.dialect.bad_lines ≡ Stop → bad_lines_after old.dialect old.lines read ≡ []
  pub fewer : old.skipped.count ≤ old.lines → new.skipped.count ≤ new.lines

-- the first bad line of these lines is this one, behind so many others, and it ends the reading
abbrev pub StopsAt : Dialect → ℕ → List (List ℕ) → BadLine → Type 0
StopsAt dialect before read bad = (dialect.bad_lines ≡ Stop) × ((more : List BadLine) × (bad_lines_after dialect before read ≡ bad ∷ more))
