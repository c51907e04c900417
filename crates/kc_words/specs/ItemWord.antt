-- What an item's word packs, by powers of two.
use Rattle.std.specs.Prelude.{ℕ, ◌+◌, ◌*◌, ◌/◌, ◌%◌, ◌<◌, ◌^◌}
use Rattle.kc_words.specs.declared.layout.TheConstants.{VERSION_BITS, GROUP_BITS, BOTTOM_BITS}
use Rattle.kc_words.specs.declared.item.ItemWord.{ItemWord}

-- each field fits its width
abbrev pub IsFitting : ItemWord → Type 0
IsFitting w = (w.version < 2 ^ VERSION_BITS) × (w.group < 2 ^ GROUP_BITS) × (w.bottom < 2 ^ BOTTOM_BITS)

-- the word of an item: its version, below that its group, and lowest its bottom label
unfoldable pub item_word : ItemWord → ℕ
item_word w = w.version * 2 ^ (GROUP_BITS + BOTTOM_BITS) + w.group * 2 ^ BOTTOM_BITS + w.bottom

-- the version, the group and the bottom label that an item's word holds
unfoldable pub item_of : ℕ → ItemWord
item_of n = record { version = n / 2 ^ (GROUP_BITS + BOTTOM_BITS); group = n / 2 ^ BOTTOM_BITS % 2 ^ GROUP_BITS; bottom = n % 2 ^ BOTTOM_BITS }
