-- The two stores that enter an update: its index, which announces nothing, and then the note.
use Rattle.std.proofs.Common.{◌≡◌, ◌^◌, ◌<◌, ◌∙◌, ℕ, Bool, List, [], ◌∷◌, ◌++◌, length, set, get_or-set_same, ap, arith}
use Rattle.kc_words.specs.NoteWord.{note_of, note_word, index_of, IsFitting}
use Rattle.kc_words.proofs.Notes.{note_of-note_word, index_noted}
use Rattle.kc_words.specs.declared.layout.TheConstants.{INDEX_BITS}
use Rattle.kc_words.specs.declared.note.NoteWord.{NoteWord}
use Rattle.kc_words.specs.declared.note.NoteWord.TheVariants.{Nothing, Enter}
use Rattle.kc_words.specs.declared.shape.Shape.{Shape}
use Rattle.kc_table.specs.declared.view.Event.{Event}
use Rattle.kc_table.specs.Log.{event}
use Rattle.kc_table.specs.TableState.{TableState, after_store, entered, index_in, state_of, unsealed_from}
use Rattle.kc_table.specs.Legal.{Legal}
use Rattle.kc_table.proofs.LegalLogs.{legal-opens, state_of-push, state_of-words}
use Rattle.kc_table.proofs.Steps.{length-words_after}

-- the state after a store to the word of the note that announces `note`
abbrev pub noted_as : TableState → ℕ → NoteWord → TableState
noted_as s value note = record {
  words = set s.words 0 value;
  list = s.list;
  note = note;
  entries = entered (index_in s) note s.entries;
  unsealed = unsealed_from note s.unsealed;
}

-- a store to the word of the note announces what its value is read as
pub after_store-noted : (shape : Shape) (s : TableState) (value : ℕ) (note : NoteWord) → note_of value ≡ note
    → after_store shape s (event 0 value) ≡ noted_as s value note
after_store-noted shape s value note is = ap (λ (z : NoteWord). noted_as s value z) is

-- the state after the store of an index: the word of the note alone has changed
abbrev pub with_index : TableState → ℕ → TableState
with_index s index = record { words = set s.words 0 index; list = s.list; note = Nothing; entries = s.entries; unsealed = s.unsealed }

-- the state after both stores, where `first` was stored before the note and is read as `index`
abbrev with_note : TableState → ℕ → ℕ → Bool → ℕ → ℕ → TableState
with_note s first index add u v = record {
  words = set (set s.words 0 first) 0 (note_word (Enter add u v));
  list = s.list;
  note = Enter add u v;
  entries = s.entries ++ record { index = index; add = add; u = u; v = v } ∷ [];
  unsealed = [];
}

-- the state after both stores: the entry stands behind those before, and its section is open
abbrev pub with_entry : TableState → ℕ → Bool → ℕ → ℕ → TableState
with_entry s index add u v = with_note s index index add u v

module _ (shape : Shape) (opening : List ℕ) where
  -- what a log has made with the store of an index behind it
  pub state_of-index : (log : List Event) (index : ℕ) → index < 2 ^ INDEX_BITS
      → state_of shape opening (log ++ event 0 index ∷ []) ≡ with_index (state_of shape opening log) index
  state_of-index log index small =
      state_of-push shape opening log (event 0 index)
      ∙ after_store-noted shape (state_of shape opening log) index Nothing (index_noted index small).0

  -- a table has the word of the note
  note-there : (log : List Event) → Legal shape opening log → 0 < length (state_of shape opening log).words
  note-there log legal =
      omega (arith, ap length (state_of-words shape opening log), length-words_after opening log, (legal-opens shape opening log legal).one_each)

  -- what a log has made with an entry behind it
  pub state_of-entry : (log : List Event) (index : ℕ) (add : Bool) (u v : ℕ) → Legal shape opening log → index < 2 ^ INDEX_BITS → IsFitting (Enter add u v)
      → state_of shape opening ((log ++ event 0 index ∷ []) ++ event 0 (note_word (Enter add u v)) ∷ [])
      ≡ with_entry (state_of shape opening log) index add u v
  state_of-entry log index add u v legal small fits =
      let s = state_of shape opening log in
      let value = note_word (Enter add u v) in
      let first = log ++ event 0 index ∷ [] in
      let read : index_in (with_index s index) ≡ index =
      ap index_of (get_or-set_same s.words 0 index 0 (note-there log legal)) ∙ (index_noted index small).1 in
      state_of-push shape opening first (event 0 value)
      ∙ (after_store-noted shape (state_of shape opening first) value (Enter add u v) (note_of-note_word (Enter add u v) fits)
      ∙ (ap (λ (z : TableState). noted_as z value (Enter add u v)) (state_of-index log index small)
      ∙ ap (λ (k : ℕ). with_note s index k add u v) read))
