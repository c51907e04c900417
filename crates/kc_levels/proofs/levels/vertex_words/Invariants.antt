-- A word for each vertex so far.
use Rattle.std.proofs.Common.{◌≡◌, ◌<◌, ℕ, length, slice_index}
use Rattle.kc_words.specs.VertexWord.{vertex_word}
use Rattle.kc_levels.proofs.levels.vertex_words.Given as goal

abbrev pub invariant-loop-v : goal.invariant-loop-v
invariant-loop-v l = record {
  length : length l.words.items ≡ l.v;
  each : (k : ℕ) → k < l.v → slice_index l.words.items k ≡ vertex_word (record { stamp = slice_index l.stamps k; core = slice_index l.core k });
}
