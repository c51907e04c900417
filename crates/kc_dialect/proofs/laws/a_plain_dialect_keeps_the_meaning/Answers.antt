-- All lines of the text are of a graph, and so they say the same in the plain dialect.
use Rattle.std.proofs.Common.{◌≡◌, ℕ, List, None, ap, refl, ◌∙◌}
use Rattle.kc_text.specs.declared.limits.Limits.{Limits}
use Rattle.kc_text.specs.Forms.{all_said}
use Rattle.kc_text.specs.Lines.{lines}
use Rattle.kc_text.specs.Meaning.{Means, Told, meaning, nothing_told, reading}
use Rattle.kc_dialect.specs.declared.dialect.TheConstants.Dialect.{PLAIN}
use Rattle.kc_dialect.specs.Dialects.{plain_text}
use Rattle.kc_dialect.proofs.PlainDialect.{AreOfGraph, lines-of-graph, meaning-read, no-bad-lines, read-meaning, sayings-same}
use Rattle.kc_dialect.proofs.Spelled.{said-lines}
use Rattle.kc_dialect.proofs.laws.a_plain_dialect_keeps_the_meaning.Goals as goal

-- the lines are of a graph
of-graph : (limits : Limits) (bytes : List ℕ) (told : Told) → meaning limits bytes ≡ Means told → told.last ≡ None → AreOfGraph (all_said bytes)
of-graph limits bytes told e none = lines-of-graph limits 0 nothing_told (all_said bytes) told (meaning-read limits bytes told e) none

-- the plain text says the same
same-said : (limits : Limits) (bytes : List ℕ) (told : Told) → meaning limits bytes ≡ Means told → told.last ≡ None
    → all_said (plain_text PLAIN bytes) ≡ all_said bytes
same-said limits bytes told e none = said-lines PLAIN 0 (lines bytes) refl ∙ sayings-same 0 (lines bytes) (of-graph limits bytes told e none)

pub returns : goal.returns
returns c = record {
  says = same-said;
  good = λ limits bytes told e none. no-bad-lines 0 (lines bytes) (of-graph limits bytes told e none);
  means = λ limits bytes told e none l. read-meaning limits (plain_text PLAIN bytes) told l
      (ap (reading limits 0 nothing_told) (same-said limits bytes told e none) ∙ meaning-read limits bytes told e);
}
