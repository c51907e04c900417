-- What a text means that is too long, that has a bad line which ends the reading, or that has none.
use Rattle.std.proofs.Common.{◌≡◌, ◌≤◌, ◌<◌, ◌⊎◌, ◌∙◌, ℕ, List, [], ◌∷◌, Option, None, Some, IfSome, ap, cond, inl, inr, length, lt-ltb, refl, sym}
use Rattle.std.proofs.Common.{arith, length-append}
use Rattle.std.proofs.lemmas.Bool.{le-ltb}
use Rattle.std.specs.Io.KnownBytes.{Consumes, IsAtEnd}
use Rattle.std.proofs.KnownBytes.{Consumes-all, Consumes-whole}
use Rattle.std.specs.Prelude.{option_map}
use Rattle.kc_dialect.specs.Dialects.{bad_lines}
use Rattle.kc_dialect.specs.EdgeFaults.{kind_of_bad}
use Rattle.kc_dialect.specs.Rewritten.{HasFirstBad}
use Rattle.kc_dialect.specs.Skipped.{AreSkipped}
use Rattle.kc_dialect.specs.declared.bad_line.BadLine.{BadLine}
use Rattle.kc_dialect.specs.declared.dialect.BadLines.{BadLines}
use Rattle.kc_dialect.specs.declared.dialect.BadLines.TheVariants.{Skip, Stop}
use Rattle.kc_dialect.specs.declared.dialect.Dialect.{Dialect}
use Rattle.kc_text.specs.Inputs.{IsNamedEdges}
use Rattle.kc_text.specs.Meaning.{Meaning, Means, Refuses, Told, meaning}
use Rattle.kc_text.specs.declared.kind.Kind.TheVariants.{TooLong}
use Rattle.kc_text.specs.declared.limits.TheConstants.Limits.{GRAPH}
use Rattle.kc_text.specs.declared.refusal.Refusal.{Refusal}
use Rattle.kc_dialect_read.specs.Meanings.{IsRefusedAt, bad_column, dialect_meaning, first_stopping, names_told, numbers_in, stopping_line, unless_stopped}
use Rattle.kc_dialect_read.specs.Reading.{AreEdgesIn}
use Rattle.kc_dialect_read.specs.declared.fault.PlacedRefusal.{PlacedRefusal}
use Rattle.kc_dialect_read.specs.declared.plain_reader.DialectEdges.{DialectEdges}

-- the whole is refused
abbrev pub too_long : PlacedRefusal
too_long = record { refusal = record { line = 0; kind = TooLong }; column = None }

-- a text that is too long is refused
pub refused-long : (dialect : Dialect) (bytes : List ℕ) → GRAPH.bytes < length bytes → IsRefusedAt dialect bytes too_long
unfolding dialect_meaning bad_column
refused-long dialect bytes long = (
  ap (λ b. cond b (Refuses 0 TooLong) (unless_stopped (stopping_line dialect bytes) (meaning GRAPH (numbers_in dialect bytes))))
      (lt-ltb GRAPH.bytes (length bytes) long),
  sym (ap (λ b. cond b None (option_map (λ (bad : BadLine). bad.column) (stopping_line dialect bytes))) (lt-ltb GRAPH.bytes (length bytes) long)),
)

-- the first bad line ends the reading
stopping-first : (how : BadLines) (all : List BadLine) (bad : BadLine) → how ≡ Stop → (more : List BadLine) × (all ≡ bad ∷ more)
    → first_stopping how all ≡ Some bad
stopping-first Stop all bad e (more, is) = ap (first_stopping Stop) is
stopping-first Skip all bad e h = absurd (cc)

-- a text whose first bad line ends the reading is refused by it
pub refused-bad : (dialect : Dialect) (bytes : List ℕ) (bad : BadLine) → length bytes ≤ GRAPH.bytes → HasFirstBad dialect bytes bad
    → IsRefusedAt dialect bytes (record { refusal = record { line = bad.line; kind = kind_of_bad bad.kind }; column = Some bad.column })
unfolding dialect_meaning bad_column
refused-bad dialect bytes bad fits (stops, first) =
    let here : stopping_line dialect bytes ≡ Some bad = stopping-first dialect.bad_lines (bad_lines dialect bytes) bad stops first in (
      ap (λ b. cond b (Refuses 0 TooLong) (unless_stopped (stopping_line dialect bytes) (meaning GRAPH (numbers_in dialect bytes))))
          (le-ltb GRAPH.bytes (length bytes) fits)
          ∙ ap (λ (s : Option BadLine). unless_stopped s (meaning GRAPH (numbers_in dialect bytes))) here,
      sym (ap (λ b. cond b None (option_map (λ (bad : BadLine). bad.column) (stopping_line dialect bytes))) (le-ltb GRAPH.bytes (length bytes) fits)
          ∙ ap (option_map (λ (bad : BadLine). bad.column)) here),
    )

-- the same of a refusal with its line, its kind and its column
pub refused-as : (dialect : Dialect) (bytes : List ℕ) (bad : BadLine) (placed : PlacedRefusal) → placed.refusal.line ≡ bad.line
    → placed.refusal.kind ≡ kind_of_bad bad.kind → placed.column ≡ Some bad.column → length bytes ≤ GRAPH.bytes → HasFirstBad dialect bytes bad
    → IsRefusedAt dialect bytes placed
refused-as dialect bytes bad placed line kind column fits first =
    let here = refused-bad dialect bytes bad fits first in
    (here.0 ∙ (λ i. Refuses (sym line i) (sym kind i)), column ∙ here.1)

-- no bad line ends the reading
stopping-none : (how : BadLines) (all : List BadLine) → (how ≡ Stop → all ≡ []) → first_stopping how all ≡ None
stopping-none Stop all none = ap (first_stopping Stop) (none refl)
stopping-none Skip all none = refl

-- a text in which no bad line ends the reading means what its text of numbers means
pub meaning-unstopped : (dialect : Dialect) (bytes : List ℕ) (m : Meaning) → length bytes ≤ GRAPH.bytes
    → (dialect.bad_lines ≡ Stop → bad_lines dialect bytes ≡ []) → meaning GRAPH (numbers_in dialect bytes) ≡ m → dialect_meaning dialect bytes ≡ m
unfolding dialect_meaning
meaning-unstopped dialect bytes m fits none is =
    ap (λ b. cond b (Refuses 0 TooLong) (unless_stopped (stopping_line dialect bytes) (meaning GRAPH (numbers_in dialect bytes))))
    (le-ltb GRAPH.bytes (length bytes) fits)
    ∙ ap (λ (s : Option BadLine). unless_stopped s (meaning GRAPH (numbers_in dialect bytes))) (stopping-none dialect.bad_lines (bad_lines dialect bytes) none)
    ∙ is

-- and where that is refused no column is meant
pub refused-plain : (dialect : Dialect) (bytes : List ℕ) (refusal : Refusal) → length bytes ≤ GRAPH.bytes
    → (dialect.bad_lines ≡ Stop → bad_lines dialect bytes ≡ []) → meaning GRAPH (numbers_in dialect bytes) ≡ Refuses refusal.line refusal.kind
    → IsRefusedAt dialect bytes (record { refusal = refusal; column = None })
unfolding bad_column
refused-plain dialect bytes refusal fits none is = (
  meaning-unstopped dialect bytes (Refuses refusal.line refusal.kind) fits none is,
  sym (ap (λ b. cond b None (option_map (λ (bad : BadLine). bad.column) (stopping_line dialect bytes))) (le-ltb GRAPH.bytes (length bytes) fits)
      ∙ ap (option_map (λ (bad : BadLine). bad.column)) (stopping-none dialect.bad_lines (bad_lines dialect bytes) none)),
)

-- the edges of the given bytes are those of all bytes, and none is left
pub AreEdgesIn-given : (dialect : Dialect) (known after : Option (List ℕ)) (given : List ℕ) (told : Told) (found : DialectEdges) → Consumes known after given
    → IsAtEnd after ⊎ (GRAPH.bytes < length given) → dialect_meaning dialect given ≡ Means told → IsNamedEdges told found.named
    → AreSkipped found.skipped (bad_lines dialect given) → found.names ≡ names_told dialect given → AreEdgesIn dialect known found × IsAtEnd after
AreEdgesIn-given dialect known after given told found took (inl end) means are skipped names = (
  record {
    bytes = given;
    read = Consumes-all known after given [] given took end refl;
    told = told;
    means = means;
    are = are;
    skipped = skipped;
    names = names;
  },
  end,
)
AreEdgesIn-given dialect known after given told found took (inr many) means are skipped names =
    let both : Refuses 0 TooLong ≡ Means told = sym ((refused-long dialect given many).0) ∙ means in absurd (cc)

-- a refusal of bytes that are too many is of the whole
long-same : (dialect : Dialect) (given : List ℕ) (placed : PlacedRefusal) → GRAPH.bytes < length given → IsRefusedAt dialect given placed
    → (placed.refusal.line ≡ 0) × (placed.refusal.kind ≡ TooLong) × (placed.column ≡ None)
long-same dialect given placed many (refuses, column) =
    let long = refused-long dialect given many in
    let same : Refuses placed.refusal.line placed.refusal.kind ≡ Refuses 0 TooLong = sym refuses ∙ long.0 in
    (cc, cc, column ∙ sym long.1)

-- where the given bytes are refused, all bytes are, with the same line, column and kind
pub refused-given : (dialect : Dialect) (known after : Option (List ℕ)) (given : List ℕ) (placed : PlacedRefusal) → Consumes known after given
    → IsAtEnd after ⊎ (GRAPH.bytes < length given) → IsRefusedAt dialect given placed → IfSome known (λ all. IsRefusedAt dialect all placed)
refused-given dialect known after given placed took (inl end) refused =
    Consumes-whole known after given (λ all. IsRefusedAt dialect all placed) took end refused
refused-given dialect None after given placed took (inr many) refused = tt
refused-given dialect (Some all) None given placed took (inr many) refused = absurd took
refused-given dialect (Some all) (Some rest) given placed took (inr many) refused =
    let long = refused-long dialect all (omega (arith, many, ap length took, length-append given rest)) in
    let (line, kind, column) = long-same dialect given placed many refused in
    (long.0 ∙ (λ i. Refuses (sym line i) (sym kind i)), column ∙ long.1)
