-- What was found is settled: the first line that is refused is known, also where there are too many ids.
use Rattle.std.proofs.Common.{◌≡◌, ◌≤◌, ◌<◌, ◌+◌, ℕ, List, [], ◌∷◌, ◌++◌, length, map, get_or, refl, sym, ap, ap₂, subst, ◌∙◌, arith}
use Rattle.std.proofs.Common.{nat_eq, inr, length-append, Vec, Global}
use Rattle.std.specs.List.{filter, flat_map}
use Rattle.std.specs.Set.{distinct_count}
use Rattle.kc_text.specs.declared.change.ChangeLine.{ChangeLine}
use Rattle.kc_text.specs.declared.kind.Kind.{Kind}
use Rattle.kc_text.specs.declared.limits.Limits.{Limits}
use Rattle.kc_text.specs.declared.line.TextLine.{TextLine}
use Rattle.kc_text.specs.declared.line.TextLine.TheVariants as said
use Rattle.kc_text.specs.declared.line_numbers.LineNumbers.{LineNumbers}
use Rattle.kc_text.specs.declared.reading.LineReader.{LineReader}
use Rattle.kc_text.specs.declared.reading.Reading.{Reading}
use Rattle.kc_text.specs.Inputs.{AreIds}
use Rattle.kc_text.specs.Meaning.{Refuses, Told, batches, changes, ends, ends_of, names, nothing_told, reading}
use Rattle.kc_text.specs.Readers.{NamesFew, outcome, told_by, told_lines}
use Rattle.kc_text.specs.Readings.{IsFound, IsReading, Reads}
use Rattle.kc_text.specs.TellingLines.{is_telling, lines_of, named_by, numbers, skipped_at}
use Rattle.kc_text.proofs.Again.{named-told, refused-append, renumbered}
use Rattle.kc_text.proofs.Numbered.{numbers-within}
use Rattle.kc_text.proofs.ReadLines.{read-outcome}
use Rattle.kc_text.proofs.Telling.{all-items, ends-told}

-- each telling line has a number
length-telling : (done : ℕ) (lines : List TextLine) → length (filter is_telling lines) ≡ length (numbers done lines)
length-telling done [] = refl
length-telling done (said.Nothing ∷ rest) = length-telling (done + 1) rest
length-telling done (said.Edge a b ∷ rest) = let h = length-telling (done + 1) rest in omega arith
length-telling done (said.Batch ∷ rest) = let h = length-telling (done + 1) rest in omega arith
length-telling done (said.Change c ∷ rest) = let h = length-telling (done + 1) rest in omega arith
length-telling done (said.Wrong kind ∷ rest) = let h = length-telling (done + 1) rest in omega arith

-- what was told is known, with what the lines mean
abbrev pub IsSettled : Limits → Reading → List TextLine → Type 0
IsSettled limits found lines = (told : Told) × IsReading told found × (reading limits 0 nothing_told lines ≡ outcome told found.refusal)

-- the ends that were collected are all that was named
ends-collected : (told : Told) (edges : List (ℕ × ℕ)) (read : List (Vec ChangeLine Global)) → edges ≡ told.edges
    → map (λ batch. batch.items) read ≡ batches told
    → ends edges ++ ends (map ends_of (flat_map (λ (b : Vec ChangeLine Global). b.items) read)) ≡ names told
ends-collected told edges read e b =
    ap₂ (λ (es : List (ℕ × ℕ)) (cs : List ChangeLine). ends es ++ ends (map ends_of cs)) e
    (all-items read ∙ ap (flat_map (λ (batch : List ChangeLine). batch)) b)
    ∙ sym (ends-told told.edges (changes told))

-- what a reader was told, its lists and its ids, is what was found
pub found-by : (limits : Limits) (reader : LineReader) (found : Reading) (edges : List (ℕ × ℕ)) (read : List (Vec ChangeLine Global)) (lines : List TextLine)
    → found.edges.items ≡ (told_by reader.reader).edges → map (λ batch. batch.items) found.batches.items ≡ batches (told_by reader.reader)
    → edges ≡ found.edges.items → read ≡ found.batches.items
    → AreIds (ends edges ++ ends (map ends_of (flat_map (λ (b : Vec ChangeLine Global). b.items) read))) found.ids.items
    → found.refusal ≡ reader.refusal → Reads limits reader lines → IsFound limits reader.numbers found lines
found-by limits reader found edges read lines told_edges told_batches e b ids refused reads = record {
  reader = reader;
  kept = refl;
  reads = reads;
  told = record {
    edges = told_edges;
    batches = told_batches;
    ids = subst (λ (named : List ℕ). AreIds named found.ids.items) (ends-collected (told_by reader.reader) edges read (e ∙ told_edges)
        (ap (map (λ (batch : Vec ChangeLine Global). batch.items)) b ∙ told_batches)) ids;
  };
  refused = refused;
}

-- with few ids all is known
pub settled-few : (limits : Limits) (numbers : LineNumbers) (found : Reading) (lines : List TextLine) → (f : IsFound limits numbers found lines)
    → NamesFew limits (told_by f.reader.reader) → IsSettled limits found lines
settled-few limits numbers found lines f few =
    let told : Told = told_by f.reader.reader in
    (told, f.told, read-outcome limits f.reader lines f.reads (inr few) ∙ ap (outcome told) (sym f.refused))

-- the lines that tell what was found
pub found-lines : (limits : Limits) (numbers : LineNumbers) (found : Reading) (lines : List TextLine) (edges : List (ℕ × ℕ))
    (batches : List (Vec ChangeLine Global)) → edges ≡ found.edges.items → batches ≡ found.batches.items → (f : IsFound limits numbers found lines)
    → lines_of edges (map (λ batch. batch.items) batches) ≡ told_lines (told_by f.reader.reader)
found-lines limits numbers found lines edges batches e b f =
    ap₂ lines_of (e ∙ f.told.edges) (ap (map (λ (batch : Vec ChangeLine Global). batch.items)) b ∙ f.told.batches)

-- they are no more than those that were counted
pub found-few : (limits : Limits) (numbers : LineNumbers) (found : Reading) (lines : List TextLine) → (f : IsFound limits numbers found lines)
    → length (told_lines (told_by f.reader.reader)) ≤ numbers.telling
found-few limits kept found lines f =
    let read = f.reads.read in
    omega (
      arith,
      ap (λ (k : LineNumbers). k.telling) f.kept,
      read.numbers.telling,
      length-telling 0 f.reads.front,
      ap length read.told,
      length-append (told_lines (told_by f.reader.reader)) read.more,
    )

-- where the lines that told something name few ids, few were named
pub few-again : (limits : Limits) (numbers : LineNumbers) (found : Reading) (lines all : List TextLine) → (f : IsFound limits numbers found lines)
    → all ≡ told_lines (told_by f.reader.reader) → distinct_count nat_eq (named_by all) ≤ limits.ids → NamesFew limits (told_by f.reader.reader)
few-again limits numbers found lines all f is few =
    subst (λ (ns : List ℕ). distinct_count nat_eq ns ≤ limits.ids) (ap named_by is ∙ named-told (told_by f.reader.reader)) few

-- a refusal among the lines that told something, by its number in the text
pub record IsRefusedAt (limits : Limits) (kept : LineNumbers) (lines : List TextLine) (at : ℕ) (kind : Kind) : Type 0 where
  pub place : ℕ
  pub is : at ≡ place + 1
  pub within : at + skipped_at kept.steps.items place ≤ kept.lines
  pub refused : reading limits 0 nothing_told lines ≡ Refuses (at + skipped_at kept.steps.items place) kind

-- a refusal that was found again is that of the text
pub refused-at : (limits : Limits) (kept : LineNumbers) (found : Reading) (lines all : List TextLine) (at : ℕ) (kind : Kind)
    → (f : IsFound limits kept found lines) → all ≡ told_lines (told_by f.reader.reader) → reading limits 0 nothing_told all ≡ Refuses at kind
    → IsRefusedAt limits kept lines at kind
refused-at limits kept found lines all at kind f is refused =
    let read = f.reads.read in
    let front : List TextLine = f.reads.front in
    let r = renumbered limits front read.more at kind nothing_told 0 0 all (read.told ∙ ap (λ (t : List TextLine). t ++ read.more) (sym is)) refused in
    let less : r.place < f.reader.numbers.telling = omega (arith, r.within, read.numbers.telling) in
    let number : get_or (numbers 0 front) r.place 0 ≡ at + skipped_at f.reader.numbers.steps.items r.place =
    omega (arith, read.numbers.each r.place less, r.is) in
    let steps : skipped_at f.reader.numbers.steps.items r.place ≡ skipped_at kept.steps.items r.place =
    ap (λ (k : LineNumbers). skipped_at k.steps.items r.place) f.kept in
    record {
      place = r.place;
      is = omega (arith, r.is);
      within = omega (arith, number, steps, numbers-within 0 front r.place r.within, read.numbers.lines, ap (λ (k : LineNumbers). k.lines) f.kept);
      refused = ap (reading limits 0 nothing_told) f.reads.parts ∙ refused-append limits 0 nothing_told front f.reads.behind _ kind r.refused
          ∙ ap (λ n. Refuses n kind) (number ∙ ap (λ n. at + n) steps);
    }
