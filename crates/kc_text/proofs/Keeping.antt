-- What a reader keeps, one line after another.
use Rattle.std.proofs.Common.{◌≡◌, ◌+◌, ℕ, Bool, List, [], ◌∷◌, ◌++◌, length, sym, ap, ap₂, subst, ◌∙◌, nat_eq, nat_lt, arith, length-append, inl, inr, Option}
use Rattle.std.specs.Prelude.{IfSome}
use Rattle.std.specs.HashSet.{IsUnique}
use Rattle.std.specs.Set.{distinct_count}
use Rattle.kc_text.specs.declared.change.ChangeLine.{ChangeLine}
use Rattle.kc_text.specs.declared.reader.Reader.{Reader}
use Rattle.kc_text.specs.declared.line.TextLine.{TextLine}
use Rattle.kc_text.specs.declared.line.TextLine.TheVariants as said
use Rattle.kc_text.specs.Meaning.{Told, batches, changes, first_limit, names, passed_limit, with_line}
use Rattle.kc_text.specs.Readers.{Gains, HasBegun, IsExact, ReaderKeeps, is_over, told_by}
use Rattle.kc_text.proofs.Counts.{NamesMore, has_more, over_is}
use Rattle.kc_text.proofs.Telling.{changes-more, names-change, names-edge}
use Rattle.kc_text.specs.declared.limits.Limits.{Limits}

-- a reader that was told an edge line more has its two ends as names more
names-after_edge : (old new : Reader) (a b : ℕ) → told_by new ≡ with_line (told_by old) (said.Edge a b)
    → NamesMore (names (told_by old)) (names (told_by new)) a b
names-after_edge old new a b told = subst (λ (t : Told). NamesMore (names (told_by old)) (names t) a b) (sym told) (names-edge (told_by old) a b)

-- a reader that was told a change more has its two ids as names more
names-after_change : (old new : Reader) (c : ChangeLine) → told_by new ≡ with_line (told_by old) (said.Change c)
    → NamesMore (names (told_by old)) (names (told_by new)) c.a c.b
names-after_change old new c told = subst (λ (t : Told). NamesMore (names (told_by old)) (names t) c.a c.b) (sym told) (names-change (told_by old) c)

-- what a reader was told, with other edges
abbrev pub with_edges : Reader → List (ℕ × ℕ) → Told
with_edges reader edges = record { edges = edges; earlier = (told_by reader).earlier; last = (told_by reader).last }

-- what a reader was told, with another last batch
abbrev pub with_last : Reader → Option (List ChangeLine) → Told
with_last reader last = record { edges = (told_by reader).edges; earlier = (told_by reader).earlier; last = last }

-- no batch is an earlier one after a line, if there is no last one
pub begun-line : (told : Told) (line : TextLine) → HasBegun told → HasBegun (with_line told line)
begun-line told said.Nothing h = h
begun-line told (said.Edge a b) h = h
begun-line told said.Batch h = λ e. absurd (cc)
begun-line told (said.Change c) h = λ e. absurd (cc)
begun-line told (said.Wrong kind) h = h

-- a reader keeps what it should after an edge line, if its ids gained the two ends
pub keeps-edge : (old new : Reader) (a b : ℕ) → told_by new ≡ with_line (told_by old) (said.Edge a b) → new.changes ≡ old.changes → Gains old.ids new.ids a b
    → ReaderKeeps old → ReaderKeeps new
keeps-edge old new a b told same gains kept = record {
  ids = has_more old.ids new.ids (names (told_by old)) (names (told_by new)) a b (names-after_edge old new a b told) gains kept.ids;
  changes = same ∙ kept.changes ∙ sym (ap (λ (t : Told). length (changes t)) told);
  begun = subst HasBegun (sym told) (begun-line (told_by old) (said.Edge a b) kept.begun);
}

-- a reader keeps what it should after a change, if it counted it and its ids gained the two ends
pub keeps-change : (old new : Reader) (c : ChangeLine) → told_by new ≡ with_line (told_by old) (said.Change c) → new.changes ≡ old.changes + 1
    → Gains old.ids new.ids c.a c.b → ReaderKeeps old → ReaderKeeps new
keeps-change old new c told more gains kept = record {
  ids = has_more old.ids new.ids (names (told_by old)) (names (told_by new)) c.a c.b (names-after_change old new c told) gains kept.ids;
  changes =
      let grown : length (changes (told_by new)) ≡ length (changes (told_by old) ++ c ∷ []) = ap (λ (t : Told). length (changes t)) told
      ∙ ap (length) (changes-more (told_by old) c) in
      omega (arith, kept.changes, length-append (changes (told_by old)) (c ∷ []));
  begun = subst HasBegun (sym told) (begun-line (told_by old) (said.Change c) kept.begun);
}

-- the limit that a reader finds passed by its own counts is the one that what was told passes
pub limit-found : (limits : Limits) (reader : Reader) (many edge_lines updates batch_lines : Bool) → ReaderKeeps reader
    → IfSome reader.ids (IsUnique nat_eq) → IsExact limits reader
    → many ≡ is_over limits.ids reader.ids → edge_lines ≡ nat_lt limits.edge_lines (length (told_by reader).edges)
    → updates ≡ nat_lt limits.updates reader.changes → batch_lines ≡ nat_lt limits.batches (length (batches (told_by reader)))
    → first_limit many edge_lines updates batch_lines ≡ passed_limit limits (told_by reader)
limit-found limits reader many edge_lines updates batch_lines kept unique exact m e u b =
    ap₂ (λ (x y : Bool). first_limit x y updates batch_lines) (m ∙ over_is limits.ids reader.ids (names (told_by reader)) kept.ids unique
    (elim exact [ inl is ↦ inl is | inr few ↦ inr few ])) e
    ∙ ap₂ (λ (x y : Bool). first_limit (nat_lt limits.ids (distinct_count nat_eq (names (told_by reader))))
    (nat_lt limits.edge_lines (length (told_by reader).edges)) x y) (u ∙ ap (nat_lt limits.updates) kept.changes) b
