-- The words before `word` are there: the first is 0, as no note is, and each of the others is the plain list's.
use Rattle.std.proofs.Common.{◌≡◌, ◌≤◌, ◌<◌, ℕ, length}
use Rattle.std.specs.Prelude.{slice_index}
use Rattle.kc_order.proofs.writer.opening_words.Given as goal

abbrev pub invariant-loop-word : goal.invariant-loop-word
invariant-loop-word l =
    (length l.words.items ≡ l.word) × (slice_index l.words.items 0 ≡ 0)
    × ((w : ℕ) → 1 ≤ w → w < l.word → slice_index l.words.items w ≡ slice_index l.plain.words w)
