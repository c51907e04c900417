-- What a vertex's word packs, by powers of two.
use Rattle.std.specs.Prelude.{ℕ, ◌+◌, ◌*◌, ◌/◌, ◌%◌, ◌^◌}
use Rattle.kc_words.specs.declared.layout.TheConstants.{CORE_BITS}
use Rattle.kc_words.specs.declared.vertex.VertexWord.{VertexWord}

-- the word of a vertex: its stamp, and below that its core number
unfoldable pub vertex_word : VertexWord → ℕ
vertex_word w = w.stamp * 2 ^ CORE_BITS + w.core

-- the stamp and the core number that a vertex's word holds
unfoldable pub vertex_of : ℕ → VertexWord
vertex_of n = record { stamp = n / 2 ^ CORE_BITS; core = n % 2 ^ CORE_BITS }
