-- What a writer's calls do to the log.
use Rattle.std.specs.Prelude.{◌≡◌, ◌<◌, ◌≤◌, ◌+◌, ◌-◌, ◌*◌, ℕ, List, [], ◌∷◌, ◌++◌, All, length, slice_index, map, take, drop}
use Rattle.std.specs.Prelude.{nat_lt, if◌then◌else◌}
use Rattle.kc_lists.specs.Lists.{without, right_after}
use Rattle.kc_words.specs.ItemWord.{item_of}
use Rattle.kc_words.specs.NoteWord.{note_word}
use Rattle.kc_words.specs.declared.layout.TheConstants.{LAST_VERSION}
use Rattle.kc_words.specs.declared.note.NoteWord.{NoteWord}
use Rattle.kc_words.specs.declared.note.NoteWord.TheVariants.{Put, Take}
use Rattle.kc_list.specs.Writes.{Write}
use Rattle.kc_list.specs.Plain.{Plain}
use Rattle.kc_table.specs.declared.entry.Entry.{Entry}
use Rattle.kc_table.specs.declared.view.Event.{Event}
use Rattle.kc_table.specs.Log.{Seen, TableName, event, value_at}
use Rattle.kc_table.specs.TableState.{state_of, first_vertex}
use Rattle.kc_table.specs.Legal.{Legal, FollowsNote, IsVersioned, version_of}
use Rattle.kc_order.specs.Standing.{list_after}

-- the greatest version of an item's or a group's word after the log
pub record IsHighest (table : TableName) (log : List Event) (highest : ℕ) : Type 0 where
  pub bound : (word : ℕ) → IsVersioned table.shape word → version_of (value_at table.opening log word) ≤ highest
  pub word : ℕ
  pub versioned : IsVersioned table.shape word
  pub reached : version_of (value_at table.opening log word) ≡ highest

-- each word of an item or a group can be stored so many times more
abbrev pub HasRoom : TableName → List Event → ℕ → Type 0
HasRoom table log room = (word : ℕ) → IsVersioned table.shape word → version_of (value_at table.opening log word) + room ≤ LAST_VERSION

-- each word of an item or a group can be stored three times more
abbrev pub HasVersionsLeft : TableName → List Event → Type 0
HasVersionsLeft table log = HasRoom table log 3

-- the log grows by stores that change labels alone, then by a note and the store of the word of its item
pub record EndsWith (old new : Seen) (note : NoteWord) (x : ℕ) : Type 0 where
  pub table : new.table ≡ old.table
  pub relabels : List Event
  pub versioned : All (λ e. IsVersioned old.table.shape e.word) relabels
  pub value : ℕ
  pub log : new.log ≡ old.log ++ (relabels ++ event 0 (note_word note) ∷ event (1 + x) value ∷ [])
  pub legal : Legal new.table.shape new.table.opening new.log

-- the entries after the log
abbrev pub entries_after : Seen → List Entry
entries_after seen = (state_of seen.table.shape seen.table.opening seen.log).entries

-- the vertices that the log's last section has put and not sealed
abbrev pub unsealed_after : Seen → List ℕ
unsealed_after seen = (state_of seen.table.shape seen.table.opening seen.log).unsealed

-- the word of vertex v after the log
abbrev pub vertex_word_after : Seen → ℕ → ℕ
vertex_word_after seen v = value_at seen.table.opening seen.log (first_vertex seen.table.shape + v)

-- What a call leaves beside the list: these entries, these vertices put and not sealed, and these words of the vertices; and nothing is
-- announced.
pub record LeavesBeside (new : Seen) (entries : List Entry) (unsealed : List ℕ) (words : ℕ → ℕ) : Type 0 where
  pub entries_are : entries_after new ≡ entries
  pub unsealed_are : unsealed_after new ≡ unsealed
  pub words_are : (v : ℕ) → vertex_word_after new v ≡ words v
  pub quiet : (word : ℕ) → FollowsNote (state_of new.table.shape new.table.opening new.log).note word

-- no word of an item or a group has risen by more than so many versions
abbrev pub AreRaised : ℕ → Seen → Seen → Type 0
AreRaised most old new = (word : ℕ) → IsVersioned old.table.shape word
    → version_of (value_at new.table.opening new.log word) ≤ version_of (value_at old.table.opening old.log word) + most

-- with an item that was put, where it is one of the `fixed` vertices
abbrev pub with_open : ℕ → ℕ → List ℕ → List ℕ
with_open fixed x unsealed = if nat_lt x fixed then x ∷ unsealed else unsealed

-- x stands right after p now, and all others as they did; a vertex is open
pub record Puts (old new : Seen) (x p : ℕ) : Type 0 where
  pub ends : EndsWith old new (Put x p) x
  pub list : list_after new.table new.log ≡ right_after x p (without x (list_after old.table old.log))
  pub raised : AreRaised 2 old new
  pub leaves : LeavesBeside new (entries_after old) (with_open old.table.shape.fixed x (unsealed_after old)) (vertex_word_after old)

-- x is out now, by the note and one store of its word; no other label has changed
pub record Takes (old new : Seen) (x : ℕ) : Type 0 where
  pub ends : EndsWith old new (Take x) x
  pub value : ℕ
  pub single : new.log ≡ old.log ++ event 0 (note_word (Take x)) ∷ event (1 + x) value ∷ []
  pub list : list_after new.table new.log ≡ without x (list_after old.table old.log)
  pub raised : AreRaised 1 old new
  pub leaves : LeavesBeside new (entries_after old) (unsealed_after old) (vertex_word_after old)

-- puts one after the other, each of an item right after another
abbrev pub PutsEach : Seen → List (ℕ × ℕ) → Seen → Type 0
PutsEach old [] new = new ≡ old
PutsEach old (put ∷ puts) new = (next : Seen) × Puts old next put.0 put.1 × PutsEach next puts new

-- the stores of a plain list's writes
abbrev pub stores_of : List Write → List Event
stores_of writes = map (λ (w : Write). event w.word w.value) writes

-- all writes but the last
abbrev pub front_of : List Write → List Write
front_of writes = take (length writes - 1) writes

-- the last of the writes, alone
abbrev pub end_of : List Write → List Write
end_of writes = drop (length writes - 1) writes

-- the log with all writes but the last
abbrev pub log_of_front : List Event → List Write → List Event
log_of_front log writes = log ++ stores_of (front_of writes)

-- the log with all writes but the last, and then with the note
abbrev pub log_of_note : List Event → List Write → ℕ → List Event
log_of_note log writes value = log_of_front log writes ++ event 0 value ∷ []

-- the log with all writes but the last, then with the note, and then with the last write
abbrev pub log_of_all : List Event → List Write → ℕ → List Event
log_of_all log writes value = log_of_note log writes value ++ stores_of (end_of writes)

-- the log stays legal with all writes but the last, with the note after them, and with the last write
pub record AreLegal (seen : Seen) (writes : List Write) (value : ℕ) : Type 0 where
  pub front : Legal seen.table.shape seen.table.opening (log_of_front seen.log writes)
  pub note : Legal seen.table.shape seen.table.opening (log_of_note seen.log writes value)
  pub all : Legal seen.table.shape seen.table.opening (log_of_all seen.log writes value)

-- The plain list has the words and the list of the log, and nothing is announced.
pub record Tied (seen : Seen) (plain : Plain) : Type 0 where
  pub legal : Legal seen.table.shape seen.table.opening seen.log
  pub items : plain.items ≡ seen.table.shape.items
  pub fixed : plain.fixed ≡ seen.table.shape.fixed
  pub list : plain.list ≡ list_after seen.table seen.log
  pub long : length plain.words ≡ first_vertex seen.table.shape
  pub words : (word : ℕ) → IsVersioned seen.table.shape word → slice_index plain.words word ≡ value_at seen.table.opening seen.log word
  pub note : (item_of (slice_index plain.words 0)).version ≡ 0
  pub quiet : (word : ℕ) → FollowsNote (state_of seen.table.shape seen.table.opening seen.log).note word

-- what was seen, with one store more
abbrev pub with_store : Seen → ℕ → ℕ → Seen
with_store seen word value = record { table = seen.table; log = seen.log ++ event word value ∷ [] }

-- the log grows by one store
pub record Stores (old new : Seen) (word value : ℕ) : Type 0 where
  pub is : new ≡ record { table = old.table; log = old.log ++ event word value ∷ [] }
  pub legal : Legal new.table.shape new.table.opening new.log

-- the log grows by an entry: its index is stored to the word of the note, and then its note
pub record StoresEntry (old new : Seen) (index note : ℕ) : Type 0 where
  pub indexed : Stores old (with_store old 0 index) 0 index
  pub noted : Stores (with_store old 0 index) new 0 note

-- no note, the words of the items and groups, and those of the vertices
pub record AreOpeningWords (words plain vertex : List ℕ) (items : ℕ) : Type 0 where
  pub long : length words ≡ 2 * items + 2 + length vertex
  pub note : slice_index words 0 ≡ 0
  pub listed : (w : ℕ) → 1 ≤ w → w < 2 * items + 2 → slice_index words w ≡ slice_index plain w
  pub vertices : (v : ℕ) → v < length vertex → slice_index words (2 * items + 2 + v) ≡ slice_index vertex v
