-- Edge lines that are taken in one go, where each of them may come.
use Rattle.std.proofs.Common.{◌≡◌, ◌≤◌, ◌+◌, ℕ, false, Bool, List, [], ◌∷◌, ◌++◌, length, refl, sym, ap, ap₂, subst, ◌∙◌, arith, append_assoc, append-nil}
use Rattle.std.proofs.Common.{le-ltb, length-append, nat_eq, nat_lt, map, inl, inr, Option, None}
use Rattle.std.specs.Prelude.{is_some}
use Rattle.std.specs.List.{filter}
use Rattle.std.specs.Option.{option_map}
use Rattle.std.specs.Set.{distinct_count}
use Rattle.std.proofs.lemmas.Bool.{false≢true}
use Rattle.std.proofs.lemmas.List.{map-append}
use Rattle.std.proofs.lemmas.List.Elements.{filter-append}
use Rattle.kc_text.specs.declared.change.ChangeLine.{ChangeLine}
use Rattle.kc_text.specs.declared.limits.Limits.{Limits}
use Rattle.kc_text.specs.declared.line.TextLine.{TextLine}
use Rattle.kc_text.specs.declared.line.TextLine.TheVariants as said
use Rattle.kc_text.specs.declared.reader.Reader.{Reader}
use Rattle.kc_text.specs.declared.reading.LineReader.{LineReader}
use Rattle.kc_text.specs.declared.refusal.Refusal.{Refusal}
use Rattle.kc_text.specs.Meaning.{Told, changes, ends_or, first_limit, names, nothing_told, passed_limit, reading}
use Rattle.kc_text.specs.Numbering.{HasNumbers}
use Rattle.kc_text.specs.Readers.{HasBegun, HasIds, HasRoom, IsExact, NamesFew, ReaderKeeps, told_by, told_lines}
use Rattle.kc_text.specs.Readings.{HasRead, Reads, goes_on}
use Rattle.kc_text.specs.TellingLines.{edge_lines, is_telling}
use Rattle.kc_text.proofs.Few.{few-edge}

-- what edge lines told, where no batch line came
abbrev only : List (ℕ × ℕ) → Told
only edges = record { edges = edges; earlier = []; last = None }

-- each edge line tells something
telling-edges : (edges : List (ℕ × ℕ)) → filter is_telling (edge_lines edges) ≡ edge_lines edges
telling-edges [] = refl
telling-edges (e ∷ edges) = ap (λ (t : List TextLine). said.Edge e.0 e.1 ∷ t) (telling-edges edges)

-- the lines that told edges, and those of more edges behind them
lines-edges : (edges more : List (ℕ × ℕ)) → told_lines (only edges) ++ edge_lines more ≡ told_lines (only (edges ++ more))
lines-edges edges more =
    ap (λ (t : List TextLine). t ++ edge_lines more) (append-nil (edge_lines edges))
    ∙ (sym (map-append (λ (e : ℕ × ℕ). said.Edge e.0 e.1) edges more) ∙ sym (append-nil (edge_lines (edges ++ more))))

-- where all ids are few, those of the first edges are
few-front : (limits : Limits) (edges more : List (ℕ × ℕ)) → NamesFew limits (only (edges ++ more)) → NamesFew limits (only edges)
few-front limits edges [] few = subst (λ (t : List (ℕ × ℕ)). NamesFew limits (only t)) (append-nil edges) few
few-front limits edges ((a, b) ∷ more) few = few-edge limits (only edges) a b (few-front limits (edges ++ (a, b) ∷ []) more
    (subst (λ (t : List (ℕ × ℕ)). NamesFew limits (only t)) (sym (append_assoc edges ((a, b) ∷ []) more)) few))

-- few ids and few edge lines pass no limit
none-passed : (limits : Limits) (edges : List (ℕ × ℕ)) → NamesFew limits (only edges) → length edges ≤ limits.edge_lines
    → passed_limit limits (only edges) ≡ None
none-passed limits edges few short =
    ap₂ (λ (x y : Bool). first_limit x y (nat_lt limits.updates 0) (nat_lt limits.batches 0))
    (le-ltb limits.ids (distinct_count nat_eq (names (only edges))) few) (le-ltb limits.edge_lines (length edges) short)
    ∙ ap₂ (λ (x y : Bool). first_limit false false x y) (le-ltb limits.updates 0 (omega arith)) (le-ltb limits.batches 0 (omega arith))

-- what edge lines mean, with others behind them
reading-edges : (limits : Limits) (done : ℕ) (edges more : List (ℕ × ℕ)) (rest : List TextLine) → NamesFew limits (only (edges ++ more))
    → length edges + length more ≤ limits.edge_lines
    → reading limits done (only edges) (edge_lines more ++ rest) ≡ reading limits (done + length more) (only (edges ++ more)) rest
reading-edges limits done edges [] rest few short =
    ap₂ (λ (n : ℕ) (t : List (ℕ × ℕ)). reading limits n (only t) rest) (let e : done ≡ done + 0 = omega arith in e) (sym (append-nil edges))
reading-edges limits done edges ((a, b) ∷ more) rest few short =
    let now : List (ℕ × ℕ) = edges ++ (a, b) ∷ [] in
    let all : now ++ more ≡ edges ++ (a, b) ∷ more = append_assoc edges ((a, b) ∷ []) more in
    let few' : NamesFew limits (only (now ++ more)) = subst (λ (t : List (ℕ × ℕ)). NamesFew limits (only t)) (sym all) few in
    let long : length now ≡ length edges + 1 = length-append edges ((a, b) ∷ []) in
    let count : done + 1 + length more ≡ done + length ((a, b) ∷ more) = omega arith in
    ap (λ r. ends_or r (done + 1) (reading limits (done + 1) (only now) (edge_lines more ++ rest)))
    (none-passed limits now (few-front limits now more few') (omega (arith, long, short)))
    ∙ (reading-edges limits (done + 1) now more rest few' (omega (arith, long, short))
    ∙ ap₂ (λ (n : ℕ) (t : List (ℕ × ℕ)). reading limits n (only t) rest) count all)

-- before the first batch line edges alone are told
told-only : (reader : Reader) → reader.last ≡ None → HasBegun (told_by reader) → told_by reader ≡ only reader.edges.items
told-only reader last begun =
    let none : (told_by reader).last ≡ None = ap (option_map (λ batch. batch.items)) last in
    ap₂ (λ (earlier : List (List ChangeLine)) (l : Option (List ChangeLine)). record { edges = reader.edges.items; earlier = earlier; last = l })
    (begun none) none

-- one reader has edges more than another, and all else is the same
pub record HasMore (old new : Reader) (edges : List (ℕ × ℕ)) : Type 0 where
  pub edges_are : new.edges.items ≡ old.edges.items ++ edges
  pub earlier : new.earlier ≡ old.earlier
  pub last : new.last ≡ old.last
  pub changes_are : new.changes ≡ old.changes
  pub ids : new.ids ≡ old.ids

-- what is told then
told-more : (old new : Reader) (edges : List (ℕ × ℕ)) → HasMore old new edges → old.last ≡ None → HasBegun (told_by old)
    → told_by new ≡ only (old.edges.items ++ edges)
told-more old new edges more last begun =
    let none : (told_by old).last ≡ None = ap (option_map (λ batch. batch.items)) last in
    told-only new (more.last ∙ last) (λ _. ap (λ earlier. map (λ batch. batch.items) earlier.items) more.earlier ∙ begun none) ∙ ap only more.edges_are

-- a reader keeps what it should with edges more
pub keeps-more : (old new : Reader) (edges : List (ℕ × ℕ)) → HasMore old new edges → old.last ≡ None → old.ids ≡ None → ReaderKeeps old → ReaderKeeps new
keeps-more old new edges more last quick kept =
    let before = told-only old last kept.begun in
    let after = told-more old new edges more last kept.begun in
    record {
      ids = subst (λ ids. HasIds ids (names (told_by new))) (sym (more.ids ∙ quick)) tt;
      changes = more.changes_are ∙ (kept.changes ∙ (ap (λ (t : Told). length (changes t)) before ∙ sym (ap (λ (t : Told). length (changes t)) after)));
      begun = subst HasBegun (sym after) (λ _. refl);
    }

-- no ids are counted line by line, so they are few where the count is exact
few-exact : (limits : Limits) (reader : Reader) → reader.ids ≡ None → IsExact limits reader → NamesFew limits (told_by reader)
few-exact limits reader quick (inl counts) = absurd (false≢true (sym (ap is_some quick) ∙ counts))
few-exact limits reader quick (inr few) = few

-- edge lines more were read
pub edges-read : (limits : Limits) (old new : LineReader) (lines : List TextLine) (edges : List (ℕ × ℕ)) → old.refusal ≡ None → new.refusal ≡ None
    → ReaderKeeps old.reader → HasRoom limits old.reader (length edges) → HasMore old.reader new.reader edges
    → new.numbers.lines ≡ old.numbers.lines + length edges → (HasNumbers old.numbers lines → HasNumbers new.numbers (lines ++ edge_lines edges))
    → HasRead limits old lines → HasRead limits new (lines ++ edge_lines edges)
edges-read limits old new lines edges going goes kept room more count numbered read =
    let told : List (ℕ × ℕ) = old.reader.edges.items in
    let before : told_by old.reader ≡ only told = told-only old.reader room.before_batches kept.begun in
    let after : told_by new.reader ≡ only (told ++ edges) = told-more old.reader new.reader edges more room.before_batches kept.begun in
    record {
      exact = λ exact rest.
          let few : NamesFew limits (only (told ++ edges)) = subst (NamesFew limits) after (few-exact limits new.reader (more.ids ∙ room.quick) exact) in
          let few' : NamesFew limits (told_by old.reader) = subst (NamesFew limits) (sym before) (few-front limits told edges few) in
          ap (reading limits 0 nothing_told) (append_assoc lines (edge_lines edges) rest)
          ∙ (read.exact (inr few') (edge_lines edges ++ rest)
          ∙ (ap (λ (r : Option Refusal). goes_on limits r old.numbers.lines (told_by old.reader) (edge_lines edges ++ rest)) going
          ∙ (ap (λ (t : Told). reading limits old.numbers.lines t (edge_lines edges ++ rest)) before
          ∙ (reading-edges limits old.numbers.lines told edges rest few room.few
          ∙ (ap₂ (λ (n : ℕ) (t : Told). reading limits n t rest) (sym count) (sym after)
          ∙ sym (ap (λ (r : Option Refusal). goes_on limits r new.numbers.lines (told_by new.reader) rest) goes))))));
      numbers = numbered read.numbers;
      more = [];
      told = filter-append is_telling lines (edge_lines edges)
          ∙ (ap₂ (λ (s t : List TextLine). s ++ t)
          (read.told ∙ (ap (λ (t : List TextLine). told_lines (told_by old.reader) ++ t) (read.whole going)
          ∙ (append-nil (told_lines (told_by old.reader)) ∙ ap told_lines before))) (telling-edges edges)
          ∙ (lines-edges told edges ∙ (ap told_lines (sym after) ∙ sym (append-nil (told_lines (told_by new.reader))))));
      whole = λ _. refl;
    }

-- where all lines were read, and edge lines more are
pub reads-edges : (limits : Limits) (old new : LineReader) (before : List TextLine) (edges : List (ℕ × ℕ)) → old.refusal ≡ None
    → ((lines : List TextLine) → HasRead limits old lines → HasRead limits new (lines ++ edge_lines edges)) → Reads limits old before
    → Reads limits new (before ++ edge_lines edges)
reads-edges limits old new before edges going more r =
    let all : before ≡ r.front = r.parts ∙ (ap (λ (t : List TextLine). r.front ++ t) (r.all going) ∙ append-nil r.front) in
    record {
      front = before ++ edge_lines edges;
      behind = [];
      parts = sym (append-nil (before ++ edge_lines edges));
      all = λ _. refl;
      read = more before (subst (HasRead limits old) (sym all) r.read);
    }
