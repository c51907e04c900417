-- What a group's word packs, by powers of two.
use Rattle.std.specs.Prelude.{ℕ, ◌+◌, ◌*◌, ◌/◌, ◌%◌, ◌<◌, ◌^◌}
use Rattle.kc_words.specs.declared.layout.TheConstants.{VERSION_BITS, TOP_BITS}
use Rattle.kc_words.specs.declared.group.GroupWord.{GroupWord}

-- each field fits its width
abbrev pub IsFitting : GroupWord → Type 0
IsFitting w = (w.version < 2 ^ VERSION_BITS) × (w.top < 2 ^ TOP_BITS)

-- the word of a group: its version, and below that its top label
unfoldable pub group_word : GroupWord → ℕ
group_word w = w.version * 2 ^ TOP_BITS + w.top

-- the version and the top label that a group's word holds
unfoldable pub group_of : ℕ → GroupWord
group_of n = record { version = n / 2 ^ TOP_BITS; top = n % 2 ^ TOP_BITS }
