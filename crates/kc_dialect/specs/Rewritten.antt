-- What a rewriter was fed, and what it has written.
use Rattle.std.specs.Prelude.{◌≡◌, ◌≤◌, ℕ, false, List, [], ◌∷◌, ◌++◌, length}
use Rattle.std.specs.List.{All}
use Rattle.kc_text.specs.Lines.{EndsLine, is_newline, lines}
use Rattle.kc_dialect.specs.declared.bad_line.BadLine.{BadLine}
use Rattle.kc_dialect.specs.declared.dialect.Dialect.{Dialect}
use Rattle.kc_dialect.specs.declared.dialect.BadLines.TheVariants.{Stop}
use Rattle.kc_dialect.specs.declared.rewriter.Rewriter.{Rewriter}
use Rattle.kc_dialect.specs.declared.rewriter.TheConstants.{MOST_BYTES}
use Rattle.kc_dialect.specs.Dialects.{bad_lines, plain_text}
use Rattle.kc_dialect.specs.Skipped.{AreSkipped}

-- A rewriter was fed these bytes and has written this text: the plain text of the lines that end in them. It keeps the bytes behind, and
-- knows the bad lines so far, of which there are none where they end the reading.
pub record HasRewritten (rewriter : Rewriter) (fed written : List ℕ) : Type 0 where
  pub done : List ℕ
  pub cut : fed ≡ done ++ rewriter.carry.items
  pub ended : EndsLine done
  pub open' : All (λ b. is_newline b ≡ false) rewriter.carry.items
  pub text : written ≡ plain_text rewriter.lines.dialect done
  pub lines : rewriter.lines.lines ≡ length (lines done)
  pub few : rewriter.lines.lines ≤ length done
  pub skipped : AreSkipped rewriter.lines.skipped (bad_lines rewriter.lines.dialect done)
  pub fewer : rewriter.lines.skipped.count ≤ rewriter.lines.lines
  pub unbroken : rewriter.lines.dialect.bad_lines ≡ Stop → bad_lines rewriter.lines.dialect done ≡ []
  pub bytes : rewriter.bytes ≡ length fed
  pub most : length fed ≤ MOST_BYTES

-- bad lines end the reading, and this is the first of a text
abbrev pub HasFirstBad : Dialect → List ℕ → BadLine → Type 0
HasFirstBad dialect bytes bad = (dialect.bad_lines ≡ Stop) × ((more : List BadLine) × (bad_lines dialect bytes ≡ bad ∷ more))
