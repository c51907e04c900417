-- Items that a part of a log leaves where they are.
use Rattle.std.specs.Prelude.{◌≡◌, ◌+◌, ℕ, List, [], ◌∷◌, ◌++◌}
use mathlib.Core.List.{IsPrefix}
use Rattle.kc_words.specs.declared.note.NoteWord.{NoteWord}
use Rattle.kc_words.specs.declared.note.NoteWord.TheVariants.{Nothing, Enter, Put, Take}
use Rattle.kc_table.specs.declared.view.Event.{Event}
use Rattle.kc_table.specs.Log.{TableName}
use Rattle.kc_agree.specs.Stamps.{made_by}

-- the note announces that this item is put or taken
abbrev pub Announces : NoteWord → ℕ → Type 0
Announces Nothing x = ⊥
Announces (Enter add u v) x = ⊥
Announces (Put y p) x = y ≡ x
Announces (Take y) x = y ≡ x

-- the store that follows the log puts the item, or takes it
abbrev pub Moves : TableName → List Event → Event → ℕ → Type 0
Moves table log e x = Announces (made_by table log).note x × (e.word ≡ 1 + x)

-- No store between the two prefixes of a log puts the item or takes it.
abbrev pub StaysPut : TableName → List Event → List Event → ℕ → Type 0
StaysPut table from to x = (log : List Event) (e : Event) → IsPrefix from log → IsPrefix (log ++ e ∷ []) to → Moves table log e x → ⊥
