-- What is told of bad lines that were passed over.
use Rattle.std.specs.Prelude.{◌++◌, ◌==◌, ℕ, List, [], Option, codes, length, take, if◌then◌else◌}
use Rattle.std.specs.Fmt.{decimal}
use Rattle.std.specs.List.{flat_map}
use Rattle.kc_dialect.specs.declared.bad_line.BadKind.{BadKind}
use Rattle.kc_dialect.specs.declared.bad_line.BadKind.TheVariants as wrong
use Rattle.kc_dialect.specs.declared.bad_line.BadLine.{BadLine}
use Rattle.kc_dialect.specs.declared.skipped.TheConstants.{MOST_KEPT}
use Rattle.kc_cores.specs.Sentences.{in_file}

-- what is wrong with a line that is passed over
abbrev pub skip_sentence : BadKind → List ℕ
skip_sentence wrong.MissingColumn = codes "a column is missing"
skip_sentence wrong.NotANumber = codes "the field is not a whole number"
skip_sentence wrong.NumberTooLarge = codes "the number is greater than 4294967295"
skip_sentence wrong.NotAName = codes "the field is no name"

-- `cores: FILE: line 12, column 5: the field is not a whole number; the line was passed over`
abbrev pub skipped_line : Option (List ℕ) → BadLine → List ℕ
skipped_line file bad =
    codes "cores: " ++ (in_file file ++ (codes "line " ++ (decimal bad.line ++ (codes ", column " ++ (decimal bad.column ++ (codes ": "
    ++ (skip_sentence bad.kind ++ codes "; the line was passed over\n")))))))

-- `1 line was`, or `17 lines were`
abbrev pub lines_were : ℕ → List ℕ
lines_were count = if count == 1 then codes "1 line was" else decimal count ++ codes " lines were"

-- `cores: FILE: 17 lines were passed over`
abbrev pub skipped_count : Option (List ℕ) → ℕ → List ℕ
skipped_count file count = codes "cores: " ++ (in_file file ++ (lines_were count ++ codes " passed over\n"))

-- the first lines that were passed over, and how many they are, where there are any
abbrev pub told_skips : Option (List ℕ) → ℕ → List BadLine → List ℕ
told_skips file count first = if count == 0 then [] else flat_map (skipped_line file) first ++ skipped_count file count

-- what is told of these bad lines
abbrev pub skipped_report : Option (List ℕ) → List BadLine → List ℕ
skipped_report file bad = told_skips file (length bad) (take MOST_KEPT bad)
