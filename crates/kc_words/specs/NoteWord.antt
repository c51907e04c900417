-- What a note packs, by powers of two.
use Rattle.std.specs.Prelude.{ℕ, ◌+◌, ◌-◌, ◌*◌, ◌/◌, ◌%◌, ◌<◌, ◌^◌, if◌then◌else◌, ◌==◌}
use Rattle.kc_words.specs.declared.layout.TheConstants.{INDEX_BITS, VERTEX_BITS, ITEM_BITS, KIND_SHIFT, ADD_SHIFT}
use Rattle.kc_words.specs.declared.note.NoteWord.{NoteWord}
use Rattle.kc_words.specs.declared.note.NoteWord.TheVariants.{Nothing, Enter, Put, Take}

-- each field fits its width
abbrev pub IsFitting : NoteWord → Type 0
IsFitting Nothing = Unit {0}
IsFitting (Enter add u v) = (u < 2 ^ VERTEX_BITS) × (v < 2 ^ VERTEX_BITS)
IsFitting (Put x p) = (x < 2 ^ ITEM_BITS) × (p < 2 ^ ITEM_BITS)
IsFitting (Take x) = x < 2 ^ ITEM_BITS

-- the word of a note: its kind in the two highest bits, and below them what the note names
unfoldable pub note_word : NoteWord → ℕ
note_word Nothing = 0
note_word (Enter add u v) = 2 ^ KIND_SHIFT + (if add then 2 ^ ADD_SHIFT else 0) + u * 2 ^ VERTEX_BITS + v
note_word (Put x p) = 2 * 2 ^ KIND_SHIFT + x * 2 ^ ITEM_BITS + p
note_word (Take x) = 3 * 2 ^ KIND_SHIFT + x

-- the two highest bits
abbrev pub kind_of : ℕ → ℕ
kind_of n = n / 2 ^ KIND_SHIFT

-- the note that a word stands for, by its kind
unfoldable pub note_of : ℕ → NoteWord
note_of n =
    if kind_of n == 0 then Nothing
    else if kind_of n == 1 then Enter (n / 2 ^ ADD_SHIFT % 2 == 1) (n / 2 ^ VERTEX_BITS % 2 ^ VERTEX_BITS) (n % 2 ^ VERTEX_BITS)
    else if kind_of n == 2 then Put (n / 2 ^ ITEM_BITS % 2 ^ ITEM_BITS) (n % 2 ^ ITEM_BITS)
    else Take (n % 2 ^ ITEM_BITS)

-- the index of an update that a word of kind 0 holds: that of the entry whose note is stored next
abbrev pub index_of : ℕ → ℕ
index_of n = n % 2 ^ INDEX_BITS

-- the bits that a word of its kind leaves 0, as a number; those of kind 0 may hold an index
unfoldable pub spare_of : ℕ → ℕ
spare_of n =
    if kind_of n == 0 then n % 2 ^ KIND_SHIFT
    else if kind_of n == 1 then n / 2 ^ (2 * VERTEX_BITS) % 2 ^ (ADD_SHIFT - 2 * VERTEX_BITS)
    else if kind_of n == 2 then n / 2 ^ (2 * ITEM_BITS) % 2 ^ (KIND_SHIFT - 2 * ITEM_BITS)
    else n / 2 ^ ITEM_BITS % 2 ^ (KIND_SHIFT - ITEM_BITS)
