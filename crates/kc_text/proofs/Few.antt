-- Where there are few ids, there were few a line before.
use Rattle.std.proofs.Common.{◌≡◌, ◌≤◌, ℕ, List, length, subst, sym, ◌∙◌, arith, nat_eq, inl, inr}
use Rattle.std.specs.Prelude.{is_some}
use Rattle.std.specs.Set.{distinct_count}
use Rattle.kc_text.specs.declared.change.ChangeLine.{ChangeLine}
use Rattle.kc_text.specs.declared.line.TextLine.{TextLine}
use Rattle.kc_text.specs.declared.line.TextLine.TheVariants as said
use Rattle.kc_text.specs.declared.reader.Reader.{Reader}
use Rattle.kc_text.specs.declared.reading.Reading.{Reading}
use Rattle.kc_text.specs.Meaning.{Told, names, with_line}
use Rattle.kc_text.specs.Readers.{IsExact, NamesFew, told_by}
use Rattle.kc_text.specs.Readings.{IsReading}
use Rattle.kc_text.proofs.Counts.{fewer_names}
use Rattle.kc_text.proofs.Places.{length-AreIds}
use Rattle.kc_text.proofs.Telling.{names-batch, names-change, names-edge}
use Rattle.kc_text.specs.declared.limits.Limits.{Limits}

-- few ids after an edge line were few before it
pub few-edge : (limits : Limits) (told : Told) (a b : ℕ) → NamesFew limits (with_line told (said.Edge a b)) → NamesFew limits told
few-edge limits told a b few = omega (arith, few, fewer_names (names told) (names (with_line told (said.Edge a b))) a b (names-edge told a b))

-- few ids after a change were few before it
pub few-change : (limits : Limits) (told : Told) (c : ChangeLine) → NamesFew limits (with_line told (said.Change c)) → NamesFew limits told
few-change limits told c few = omega (arith, few, fewer_names (names told) (names (with_line told (said.Change c))) c.a c.b (names-change told c))

-- few ids after a batch line were few before it
pub few-batch : (limits : Limits) (told : Told) → NamesFew limits (with_line told said.Batch) → NamesFew limits told
few-batch limits told few = subst (λ (t : List ℕ). distinct_count nat_eq t ≤ limits.ids) (names-batch told) few

-- a reader that is exact was exact a line before
pub exact-before : (limits : Limits) (old new : Reader) (line : TextLine) → told_by new ≡ with_line (told_by old) line → is_some new.ids ≡ is_some old.ids
    → (NamesFew limits (with_line (told_by old) line) → NamesFew limits (told_by old)) → IsExact limits new → IsExact limits old
exact-before limits old new line told same few (inl exact) = inl (sym same ∙ exact)
exact-before limits old new line told same few (inr is) = inr (few (subst (NamesFew limits) told is))

-- a reading with few ids was told of few
pub few-reading : (limits : Limits) (told : Told) (reading : Reading) → IsReading told reading → length reading.ids.items ≤ limits.ids → NamesFew limits told
few-reading limits told reading read few = omega (arith, few, length-AreIds (names told) reading.ids.items read.ids)
