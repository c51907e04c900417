-- The lines that tell something, read again, and the numbers of their lines in the text.
use Rattle.std.proofs.Common.{◌≡◌, ◌≤◌, ◌<◌, ◌+◌, ℕ, suc, true, cond, List, [], ◌∷◌, ◌++◌, length, map, get_or, take, drop}
use Rattle.std.proofs.Common.{refl, sym, ap, ap₂}
use Rattle.std.proofs.Common.{subst, ◌∙◌, arith, append-nil, nat_eq, length-append, Some, None, Vec, Global, inl}
use Rattle.std.specs.Prelude.{is_some}
use Rattle.std.specs.List.{filter, flat_map}
use Rattle.std.specs.Set.{distinct_count}
use Rattle.std.proofs.lemmas.Grind.{flat_map-append}
use Rattle.std.proofs.lemmas.List.{map-append, length-map, take-append-drop, take_more}
use Rattle.std.proofs.lemmas.List.Elements.{All-nil}
use Rattle.kc_text.specs.declared.change.ChangeLine.{ChangeLine}
use Rattle.kc_text.specs.declared.kind.Kind.{Kind}
use Rattle.kc_text.specs.declared.limits.Limits.{Limits}
use Rattle.kc_text.specs.declared.line.TextLine.{TextLine}
use Rattle.kc_text.specs.declared.line.TextLine.TheVariants as said
use Rattle.kc_text.specs.declared.reading.LineReader.{LineReader}
use Rattle.kc_text.specs.Meaning.{Means, Refuses, Told, batches, changes, ends, ends_of, ends_or, names, nothing_told, reading, refusal, with_line}
use Rattle.kc_text.specs.Readers.{outcome, told_by, told_lines}
use Rattle.kc_text.specs.Readings.{Reads}
use Rattle.kc_text.specs.TellingLines.{lines_of_batch, edge_lines, is_telling, named_by, numbers}
use Rattle.kc_text.proofs.ReadLines.{read-outcome}
use Rattle.kc_text.proofs.Telling.{ends-batches, ends-told, map-more}
use Rattle.kc_text.proofs.WithinLimits.{HasNoLoops, reading-fit}

-- a refusal among the telling lines is one of the text, at the line that has the number
pub record IsRenumbered (limits : Limits) (done : ℕ) (told : Told) (lines : List TextLine) (before at : ℕ) (kind : Kind) : Type 0 where
  pub place : ℕ
  pub is : at ≡ before + 1 + place
  pub within : place < length (numbers done lines)
  pub refused : reading limits done told lines ≡ Refuses (get_or (numbers done lines) place 0) kind

-- where the first of the telling lines is refused, it is at the first number
first-refused : (limits : Limits) (done before : ℕ) (told : Told) (line : TextLine) (rest : List TextLine) (at : ℕ) (kind kind' : Kind)
    → is_telling line ≡ true → refusal limits told line ≡ Some kind' → Refuses (before + 1) kind' ≡ Refuses at kind
    → IsRenumbered limits done told (line ∷ rest) before at kind
first-refused limits done before told line rest at kind kind' telling is e =
    let here : numbers done (line ∷ rest) ≡ (done + 1) ∷ numbers (done + 1) rest = ap (λ b. cond b ((done + 1) ∷ numbers (done + 1) rest)
    (numbers (done + 1) rest)) telling in
    let number : before + 1 ≡ at = cc in
    let same : kind' ≡ kind = cc in
    record {
      place = 0;
      is = omega arith;
      within = omega (arith, ap length here);
      refused = ap (λ r. ends_or r (done + 1) (reading limits (done + 1) (with_line told line) rest)) is
          ∙ ap₂ (λ (n : ℕ) (k : Kind). Refuses n k) (sym (ap (λ (ns : List ℕ). get_or ns 0 0) here)) same;
    }

-- where a later one is, it is at a later number
later-refused : (limits : Limits) (done before : ℕ) (told : Told) (line : TextLine) (rest : List TextLine) (at : ℕ) (kind : Kind)
    → is_telling line ≡ true → refusal limits told line ≡ None → IsRenumbered limits (done + 1) (with_line told line) rest (before + 1) at kind
    → IsRenumbered limits done told (line ∷ rest) before at kind
later-refused limits done before told line rest at kind telling none r =
    let here : numbers done (line ∷ rest) ≡ (done + 1) ∷ numbers (done + 1) rest = ap (λ b. cond b ((done + 1) ∷ numbers (done + 1) rest)
    (numbers (done + 1) rest)) telling in
    record {
      place = suc r.place;
      is = omega (arith, r.is);
      within = omega (arith, ap length here, r.within);
      refused = ap (λ k. ends_or k (done + 1) (reading limits (done + 1) (with_line told line) rest)) none
          ∙ (r.refused ∙ ap (λ n. Refuses n kind) (sym (ap (λ (ns : List ℕ). get_or ns (suc r.place) 0) here)));
    }

-- a telling line, and the others behind it
renumber-telling : (limits : Limits) (done before : ℕ) (told : Told) (line : TextLine) (rest told_by_lines more : List TextLine) (at : ℕ) (kind : Kind)
    → is_telling line ≡ true
    → ((told : Told) (done before : ℕ) (front : List TextLine) → filter is_telling rest ≡ front ++ more → reading limits before told front ≡ Refuses at kind
    → IsRenumbered limits done told rest before at kind)
    → line ∷ filter is_telling rest ≡ told_by_lines ++ more → reading limits before told told_by_lines ≡ Refuses at kind
    → IsRenumbered limits done told (line ∷ rest) before at kind
renumber-telling limits done before told line rest [] more at kind telling others parts refused = absurd (cc)
renumber-telling limits done before told line rest (first ∷ front) more at kind telling others parts refused =
    let same : line ≡ first = cc in
    let behind : filter is_telling rest ≡ front ++ more = cc in
    let here : reading limits before told (line ∷ front) ≡ Refuses at kind = ap (λ (l : TextLine). reading limits before told (l ∷ front)) same ∙ refused in
    elim (refusal limits told line) as (λ r. refusal limits told line ≡ r
    → ends_or r (before + 1) (reading limits (before + 1) (with_line told line) front) ≡ Refuses at kind
    → IsRenumbered limits done told (line ∷ rest) before at kind) [
      | Some kind' ↦ λ is e. first-refused limits done before told line rest at kind kind' telling is e
      | None ↦ λ none e. later-refused limits done before told line rest at kind telling none
          (others (with_line told line) (done + 1) (before + 1) front behind e)
    ] refl here

-- A refusal of lines that are the first of a text's telling lines is the refusal of the text, at the line with the number.
pub renumbered : (limits : Limits) (lines more : List TextLine) (at : ℕ) (kind : Kind) (told : Told) (done before : ℕ) (front : List TextLine)
    → filter is_telling lines ≡ front ++ more → reading limits before told front ≡ Refuses at kind → IsRenumbered limits done told lines before at kind
renumbered limits [] more at kind told done before [] parts refused = absurd (cc)
renumbered limits [] more at kind told done before (first ∷ front) parts refused = absurd (cc)
renumbered limits (said.Nothing ∷ rest) more at kind told done before front parts refused =
    let r = renumbered limits rest more at kind told (done + 1) before front parts refused in
    record { place = r.place; is = r.is; within = r.within; refused = r.refused }
renumbered limits (said.Edge a b ∷ rest) more at kind told done before front parts refused =
    renumber-telling limits done before told (said.Edge a b) rest front more at kind refl
    (λ told done before front. renumbered limits rest more at kind told done before front) parts refused
renumbered limits (said.Batch ∷ rest) more at kind told done before front parts refused =
    renumber-telling limits done before told said.Batch rest front more at kind refl
    (λ told done before front. renumbered limits rest more at kind told done before front) parts refused
renumbered limits (said.Change c ∷ rest) more at kind told done before front parts refused =
    renumber-telling limits done before told (said.Change c) rest front more at kind refl
    (λ told done before front. renumbered limits rest more at kind told done before front) parts refused
renumbered limits (said.Wrong k ∷ rest) more at kind told done before front parts refused =
    renumber-telling limits done before told (said.Wrong k) rest front more at kind refl
    (λ told done before front. renumbered limits rest more at kind told done before front) parts refused

-- lines that are refused are so with any others behind them
pub refused-append : (limits : Limits) (done : ℕ) (told : Told) (lines more : List TextLine) (at : ℕ) (kind : Kind)
    → reading limits done told lines ≡ Refuses at kind → reading limits done told (lines ++ more) ≡ Refuses at kind
refused-append limits done told [] more at kind h = absurd (cc)
refused-append limits done told (line ∷ rest) more at kind h =
    elim (refusal limits told line) as (λ r. ends_or r (done + 1) (reading limits (done + 1) (with_line told line) rest) ≡ Refuses at kind
    → ends_or r (done + 1) (reading limits (done + 1) (with_line told line) (rest ++ more)) ≡ Refuses at kind) [
      | Some k ↦ λ e. e
      | None ↦ λ e. refused-append limits (done + 1) (with_line told line) rest more at kind e
    ] h

-- blank lines and comments name no ids
named-telling : (lines : List TextLine) → named_by (filter is_telling lines) ≡ named_by lines
named-telling [] = refl
named-telling (said.Nothing ∷ rest) = named-telling rest
named-telling (said.Edge a b ∷ rest) = ap (λ t. a ∷ b ∷ t) (named-telling rest)
named-telling (said.Batch ∷ rest) = named-telling rest
named-telling (said.Change c ∷ rest) = ap (λ t. c.a ∷ c.b ∷ t) (named-telling rest)
named-telling (said.Wrong kind ∷ rest) = named-telling rest

-- the ids of edges, and of lines behind them
named-edges : (edges : List (ℕ × ℕ)) (more : List TextLine) → named_by (edge_lines edges ++ more) ≡ ends edges ++ named_by more
named-edges [] more = refl
named-edges (e ∷ edges) more = ap (λ t. e.0 ∷ e.1 ∷ t) (named-edges edges more)

-- the ids of changes, and of lines behind them
named-changes : (batch : List ChangeLine) (more : List TextLine) → named_by (map (λ c. said.Change c) batch ++ more) ≡ ends (map ends_of batch) ++ named_by more
named-changes [] more = refl
named-changes (c ∷ batch) more = ap (λ t. c.a ∷ c.b ∷ t) (named-changes batch more)

-- the ids of batches
named-batches : (bs : List (List ChangeLine)) → named_by (flat_map lines_of_batch bs) ≡ ends (map ends_of (flat_map (λ batch. batch) bs))
named-batches [] = refl
named-batches (batch ∷ bs) =
    named-changes batch (flat_map lines_of_batch bs) ∙ ap (λ t. ends (map ends_of batch) ++ t) (named-batches bs)
    ∙ sym (ends-batches batch (flat_map (λ batch. batch) bs))

-- the ids of the lines that told something are the names that were told
pub named-told : (told : Told) → named_by (told_lines told) ≡ names told
named-told told = named-edges told.edges (flat_map lines_of_batch (batches told)) ∙ ap (λ t. ends told.edges ++ t) (named-batches (batches told))
    ∙ sym (ends-told told.edges (changes told))

-- where none of the lines is refused by an exact count, they name few ids
pub again-few : (limits : Limits) (reader : LineReader) (lines : List TextLine) → Reads limits reader lines → is_some reader.reader.ids ≡ true
    → reader.refusal ≡ None → distinct_count nat_eq (named_by lines) ≤ limits.ids
again-few limits reader lines r exact none =
    let told : Told = told_by reader.reader in
    let means : reading limits 0 nothing_told lines ≡ Means told = read-outcome limits reader lines r (inl exact) ∙ ap (outcome told) none in
    let fit = reading-fit limits 0 nothing_told lines told (record {
      within = record { ids = omega arith; changes = omega arith; batch_lines = omega arith };
      earlier = All-nil HasNoLoops;
      last = tt;
    }) means in
    let front : lines ≡ r.front = r.parts ∙ ap (λ (t : List TextLine). r.front ++ t) (r.all none) ∙ append-nil r.front in
    let named : named_by lines ≡ names told = ap named_by front ∙ sym (named-telling r.front) ∙ ap named_by (r.read.told
    ∙ ap (λ (t : List TextLine). told_lines told ++ t) (r.read.whole none) ∙ append-nil (told_lines told)) ∙ named-told told in
    subst (λ (ns : List ℕ). distinct_count nat_eq ns ≤ limits.ids) (sym named) fit.within.ids

-- one line more that tells an edge
pub edges-more : (edges : List (ℕ × ℕ)) (i : ℕ) (d : ℕ × ℕ) → i < length edges
    → edge_lines (take i edges) ++ said.Edge (get_or edges i d).0 (get_or edges i d).1 ∷ [] ≡ edge_lines (take (i + 1) edges)
edges-more edges i d l = sym (ap edge_lines (take_more edges i d l) ∙ map-append (λ (e : ℕ × ℕ). said.Edge e.0 e.1) (take i edges) (get_or edges i d ∷ []))

-- one line more that tells a change
pub changes-more : (batch : List ChangeLine) (i : ℕ) (d : ChangeLine) → i < length batch
    → map (λ c. said.Change c) (take i batch) ++ said.Change (get_or batch i d) ∷ [] ≡ map (λ c. said.Change c) (take (i + 1) batch)
changes-more batch i d l = sym (ap (map (λ (c : ChangeLine). said.Change c)) (take_more batch i d l)
    ∙ map-append (λ (c : ChangeLine). said.Change c) (take i batch) (get_or batch i d ∷ []))

-- the lines that tell the first batches
abbrev pub front_lines : List (Vec ChangeLine Global) → ℕ → List TextLine
front_lines batches i = flat_map lines_of_batch (map (λ batch. batch.items) (take i batches))

-- the lines of one batch more
pub batches-more : (batches : List (Vec ChangeLine Global)) (i : ℕ) (batch : Vec ChangeLine Global) → i < length batches → batch ≡ get_or batches i batch
    → front_lines batches i ++ lines_of_batch batch.items ≡ front_lines batches (i + 1)
batches-more batches i batch l is =
    sym (ap (flat_map lines_of_batch) (map-more (λ (b : Vec ChangeLine Global). b.items) batches i batch l is)
    ∙ flat_map-append lines_of_batch (map (λ batch. batch.items) (take i batches)) (batch.items ∷ [])
    ∙ ap (λ (t : List TextLine). front_lines batches i ++ t) (append-nil (lines_of_batch batch.items)))

-- the lines of the first batches and of one more are no more than all
pub front-within : (batches : List (Vec ChangeLine Global)) (i : ℕ) (batch : Vec ChangeLine Global) → i < length batches → batch ≡ get_or batches i batch
    → length (front_lines batches i) + 1 + length batch.items ≤ length (flat_map lines_of_batch (map (λ batch. batch.items) batches))
front-within batches i batch l is =
    let items : Vec ChangeLine Global → List ChangeLine = λ b. b.items in
    let more : front_lines batches i ++ lines_of_batch batch.items ≡ front_lines batches (i + 1) = batches-more batches i batch l is in
    let all : front_lines batches (i + 1) ++ flat_map lines_of_batch (map items (drop (i + 1) batches)) ≡ flat_map lines_of_batch (map items batches) =
    sym (flat_map-append lines_of_batch (map items (take (i + 1) batches)) (map items (drop (i + 1) batches)))
    ∙ ap (flat_map lines_of_batch) (sym (map-append items (take (i + 1) batches) (drop (i + 1) batches)) ∙ ap (map items) (take-append-drop (i + 1) batches)) in
    omega (
      arith,
      ap length more,
      ap length all,
      length-append (front_lines batches i) (lines_of_batch batch.items),
      length-append (front_lines batches (i + 1)) (flat_map lines_of_batch (map items (drop (i + 1) batches))),
      length-map batch.items (λ (c : ChangeLine). said.Change c),
    )
