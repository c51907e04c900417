-- What a reader of a text in a dialect was fed, piece by piece.
use Rattle.std.proofs.Common.{◌≡◌, ◌≤◌, ◌<◌, ◌+◌, ◌-◌, ◌∙◌, ◌++◌, ℕ, List, [], Option, None, Some, true, false, append_assoc, append-nil}
use Rattle.std.proofs.Common.{arith, length, length-append, refl, subst, sym}
use Rattle.std.specs.Prelude.{is_some}
use Rattle.kc_dialect.specs.Rewritten.{HasFirstBad, HasRewritten}
use Rattle.kc_dialect.specs.declared.bad_line.BadLine.{BadLine}
use Rattle.kc_dialect.specs.declared.dialect.Dialect.{Dialect}
use Rattle.kc_names.specs.Reading.{WasFedIds}
use Rattle.kc_text.specs.Lines.{EndsLine}
use Rattle.kc_text.specs.declared.limits.TheConstants.Limits.{GRAPH}
use Rattle.kc_dialect.proofs.Ends.{written-ends}
use Rattle.kc_dialect_read.specs.Reading.{Rewrites, WasGiven, WasGivenTill, WasGivenWithin}
use Rattle.kc_dialect_read.specs.declared.plain_reader.PlainReader.{PlainReader}
use Rattle.kc_dialect_read.specs.declared.reader.DialectReader.{DialectReader}

-- what a piece was rewritten to was read
pub Rewrites-more : (old new : PlainReader) (fed piece added : List ℕ)
    → ((f w : List ℕ) → HasRewritten old.rewriter f w → HasRewritten new.rewriter (f ++ piece) (w ++ added))
    → ((f : List ℕ) → EndsLine f → WasFedIds old.dialect.ids old.reader f → WasFedIds old.dialect.ids new.reader (f ++ added))
    → new.rewriter.lines.dialect ≡ old.rewriter.lines.dialect → new.reader.reader.limits ≡ old.reader.reader.limits → new.dialect ≡ old.dialect
    → Rewrites old fed → Rewrites new (fed ++ piece)
Rewrites-more old new fed piece added rewrites reads dialect limits same r = record {
  written = r.written ++ added;
  rewritten = rewrites fed r.written r.rewritten;
  read = subst (λ (d : Dialect). WasFedIds d.ids new.reader (r.written ++ added)) (sym same)
      (reads r.written (written-ends old.rewriter fed r.written r.rewritten) r.read);
  dialect = dialect ∙ r.dialect ∙ sym same;
  limits = limits ∙ r.limits;
}

-- behind a bad line that ends the reading, more bytes change nothing
stopped-more : (dialect : Dialect) (fed piece : List ℕ) (bad : BadLine) → ((rest : List ℕ) → HasFirstBad dialect (fed ++ rest) bad)
    → (rest : List ℕ) → HasFirstBad dialect ((fed ++ piece) ++ rest) bad
stopped-more dialect fed piece bad h = λ rest. subst (λ (t : List ℕ). HasFirstBad dialect t bad) (sym (append_assoc fed piece rest)) (h (piece ++ rest))

-- what was fed within what is allowed
pub fed-within : (reader : DialectReader) (left : ℕ) (fed : List ℕ) → reader.left ≡ Some left → WasGiven reader fed
    → (left + length fed ≡ GRAPH.bytes) × WasGivenTill reader reader.bad fed
fed-within reader left fed is h = subst (λ (l : Option ℕ). WasGivenWithin reader l fed) is h

-- it is so many bytes less after a piece
within-more : (left : ℕ) (fed piece : List ℕ) → length piece ≤ left → left + length fed ≡ GRAPH.bytes
    → (left - length piece) + length (fed ++ piece) ≡ GRAPH.bytes
within-more left fed piece few room = omega (arith, room, length-append fed piece)

-- where a bad line has ended the reading, the next piece is counted
pub fed-counted : (old new : DialectReader) (left : ℕ) (fed piece : List ℕ) → old.left ≡ Some left → length piece ≤ left
    → new.left ≡ Some (left - length piece) → new.bad ≡ old.bad → new.inner.dialect ≡ old.inner.dialect → is_some old.bad ≡ true
    → WasGiven old fed → WasGiven new (fed ++ piece)
fed-counted old new left fed piece is few then same dialect some h =
    let (room, till) = fed-within old left fed is h in
    subst (λ (l : Option ℕ). WasGivenWithin new l (fed ++ piece)) (sym then) (
      within-more left fed piece few room,
      subst (λ (b : Option BadLine). WasGivenTill new b (fed ++ piece)) (sym same) (go old.bad some till),
    )
  where
    go : (bad : Option BadLine) → is_some bad ≡ true → WasGivenTill old bad fed → WasGivenTill new bad (fed ++ piece)
    go None e t = absurd (cc)
    go (Some bad) e t = λ rest.
        subst (λ (d : Dialect). HasFirstBad d ((fed ++ piece) ++ rest) bad) (sym dialect) (stopped-more old.inner.dialect fed piece bad t rest)

-- where no bad line has ended the reading, what was fed was rewritten and read
pub fed-rewritten : (reader : DialectReader) (left : ℕ) (fed : List ℕ) → reader.left ≡ Some left → is_some reader.bad ≡ false → WasGiven reader fed
    → (left + length fed ≡ GRAPH.bytes) × Rewrites reader.inner fed
fed-rewritten reader left fed is none h = let (room, till) = fed-within reader left fed is h in (room, go reader.bad none till)
  where
    go : (bad : Option BadLine) → is_some bad ≡ false → WasGivenTill reader bad fed → Rewrites reader.inner fed
    go None e t = t
    go (Some bad) e t = absurd (cc)

none-bad : (bad : Option BadLine) → is_some bad ≡ false → bad ≡ None
none-bad None e = refl
none-bad (Some bad) e = absurd (cc)

-- the next piece was rewritten and read too
pub fed-read : (old new : DialectReader) (left : ℕ) (fed piece : List ℕ) → old.left ≡ Some left → length piece ≤ left
    → new.left ≡ Some (left - length piece) → new.bad ≡ old.bad → is_some old.bad ≡ false
    → ((f : List ℕ) → Rewrites old.inner f → Rewrites new.inner (f ++ piece)) → WasGiven old fed → WasGiven new (fed ++ piece)
fed-read old new left fed piece is few then same none more h =
    let (room, rewrites) = fed-rewritten old left fed is none h in
    subst (λ (l : Option ℕ). WasGivenWithin new l (fed ++ piece)) (sym then) (
      within-more left fed piece few room,
      subst (λ (b : Option BadLine). WasGivenTill new b (fed ++ piece)) (sym (same ∙ none-bad old.bad none)) (more fed rewrites),
    )

-- a bad line in the next piece has ended the reading
pub fed-stopped : (old new : DialectReader) (left : ℕ) (fed piece : List ℕ) (bad : BadLine) → old.left ≡ Some left → length piece ≤ left
    → new.left ≡ Some (left - length piece) → new.bad ≡ Some bad → new.inner.dialect ≡ old.inner.dialect → is_some old.bad ≡ false
    → ((f rest : List ℕ) → Rewrites old.inner f → HasFirstBad old.inner.dialect ((f ++ piece) ++ rest) bad) → WasGiven old fed → WasGiven new (fed ++ piece)
fed-stopped old new left fed piece bad is few then here dialect none first h =
    let (room, rewrites) = fed-rewritten old left fed is none h in
    subst (λ (l : Option ℕ). WasGivenWithin new l (fed ++ piece)) (sym then) (
      within-more left fed piece few room,
      subst (λ (b : Option BadLine). WasGivenTill new b (fed ++ piece)) (sym here) (λ rest.
          subst (λ (d : Dialect). HasFirstBad d ((fed ++ piece) ++ rest) bad) (sym dialect) (first fed rest rewrites)),
    )

-- with the next piece the bytes are too many
pub fed-many : (old new : DialectReader) (left : ℕ) (fed piece : List ℕ) → old.left ≡ Some left → is_some old.bad ≡ false → new.left ≡ None
    → ((f : List ℕ) → Rewrites old.inner f → GRAPH.bytes < length (f ++ piece)) → WasGiven old fed → WasGiven new (fed ++ piece)
fed-many old new left fed piece is none then many h =
    let (room, rewrites) = fed-rewritten old left fed is none h in
    subst (λ (l : Option ℕ). WasGivenWithin new l (fed ++ piece)) (sym then) (many fed rewrites)

-- the bad line that has ended the reading is the first of what was fed
pub fed-first_bad : (reader : DialectReader) (left : ℕ) (fed : List ℕ) (bad : BadLine) → reader.left ≡ Some left → reader.bad ≡ Some bad → WasGiven reader fed
    → (length fed ≤ GRAPH.bytes) × HasFirstBad reader.inner.dialect fed bad
fed-first_bad reader left fed bad is here h =
    let (room, till) = fed-within reader left fed is h in
    let at_bad = subst (λ (b : Option BadLine). WasGivenTill reader b fed) here till in
    (omega (arith, room), subst (λ (t : List ℕ). HasFirstBad reader.inner.dialect t bad) (append-nil fed) (at_bad []))
