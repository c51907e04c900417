-- What a put, a take, a note of an entry and a vertex word leave beside the list.
use Rattle.std.proofs.Common.{◌≡◌, ℕ, suc, ◌+◌, ◌-◌, ◌<◌, cond, ◌&&◌, List, [], ◌∷◌, ◌++◌, ltb, set, get_or}
use Rattle.std.proofs.Common.{refl, sym, ap, ◌∙◌, subst, arith, get_or-set_other, eq-eqb}
use Rattle.std.specs.Prelude.{All}
use Rattle.std.proofs.lemmas.Bool.{lt-leb}
use Rattle.kc_lists.specs.Lists.{without}
use Rattle.kc_words.specs.NoteWord.{note_of, note_word, IsFitting}
use Rattle.kc_words.proofs.Notes.{note_of-note_word}
use Rattle.kc_words.specs.declared.note.NoteWord.{NoteWord}
use Rattle.kc_words.specs.declared.note.NoteWord.TheVariants.{Put, Take}
use Rattle.kc_words.specs.declared.shape.Shape.{Shape}
use Rattle.kc_table.specs.declared.entry.Entry.{Entry}
use Rattle.kc_table.specs.declared.view.Event.{Event}
use Rattle.kc_table.specs.Log.{Seen, TableName, event}
use Rattle.kc_table.specs.TableState.{TableState, after_store, after_stores, state_of, first_vertex, entered, index_in, unsealed_from, put_in, sealed}
use Rattle.kc_table.specs.Legal.{FollowsNote, IsVersioned}
use Rattle.kc_table.proofs.LegalLogs.{after_stores-append, state_of-words}
use Rattle.kc_order.specs.Writers.{EndsWith, LeavesBeside, entries_after, unsealed_after, vertex_word_after, with_open}
use Rattle.kc_order.proofs.Ending.{ended, noted, after-item}
use Rattle.kc_order.proofs.Relabelling.{relabelled, after-relabel}

-- a note of a put or a take enters nothing and begins no section
pub record IsOfItem (note : NoteWord) : Type 0 where
  pub no_entry : (index : ℕ) (entries : List Entry) → entered index note entries ≡ entries
  pub no_section : (unsealed : List ℕ) → unsealed_from note unsealed ≡ unsealed

-- a put's note enters nothing and begins no section
pub put-of_item : (x p : ℕ) → IsOfItem (Put x p)
put-of_item x p = record { no_entry = λ index entries. refl; no_section = λ unsealed. refl }

-- a take's note enters nothing and begins no section
pub take-of_item : (x : ℕ) → IsOfItem (Take x)
take-of_item x = record { no_entry = λ index entries. refl; no_section = λ unsealed. refl }

module _ (shape : Shape) where
  -- the word of vertex v in a state
  abbrev word_in : TableState → ℕ → ℕ
  word_in s v = get_or s.words (first_vertex shape + v) 0

  -- what stores that end with a note and the store of its item leave of a state
  pub record Left (s t : TableState) (unsealed : List ℕ) : Type 0 where
    pub entries : t.entries ≡ s.entries
    pub unsealed_is : t.unsealed ≡ unsealed
    pub words : (v : ℕ) → word_in t v ≡ word_in s v
    pub quiet : (word : ℕ) → FollowsNote t.note word

  -- an item's word is no vertex's
  sealed-none : (x : ℕ) (us : List ℕ) → x < shape.items → sealed shape (1 + x) us ≡ us
  sealed-none x us low = ap (λ b. cond b (without ((1 + x) - first_vertex shape) us) us) (lt-leb (first_vertex shape) (1 + x) (omega (arith, low)))

  -- stores of items' and groups' words change neither, and the last two are those of a note and of its item
  pub left-after : (note : NoteWord) (value x last : ℕ) → note_of value ≡ note → IsOfItem note → x < shape.items → (relabels : List Event) (s : TableState)
      → All (λ e. IsVersioned shape e.word) relabels → ((word : ℕ) → FollowsNote s.note word)
      → Left s (after_stores shape s (relabels ++ event 0 value ∷ event (1 + x) last ∷ [])) (put_in shape note (1 + x) s.unsealed)
  left-after note value x last is of low [] s versioned quiet =
      let t = noted s value in
      let e = event (1 + x) last in
      let after : after_store shape t e ≡ ended shape t e = after-item shape t e (omega arith) in
      subst (λ z. Left s z (put_in shape note (1 + x) s.unsealed)) (sym after) record {
        entries = ap (λ z. entered (index_in s) z s.entries) is ∙ of.no_entry (index_in s) s.entries;
        unsealed_is = (λ i. put_in shape (is i) (1 + x) (sealed shape (1 + x) (unsealed_from (is i) s.unsealed)))
            ∙ (ap (λ z. put_in shape note (1 + x) (sealed shape (1 + x) z)) (of.no_section s.unsealed)
            ∙ ap (put_in shape note (1 + x)) (sealed-none x s.unsealed low));
        words = λ v. get_or-set_other (set s.words 0 value) (1 + x) (first_vertex shape + v) last 0 (λ k. omega (arith, k, low))
            ∙ get_or-set_other s.words 0 (first_vertex shape + v) value 0 (λ k. omega (arith, k));
        quiet = λ word. tt;
      }
  left-after note value x last is of low (e ∷ more) s versioned quiet =
      let here : IsVersioned shape e.word = versioned 0 e (omega arith) in
      let next = relabelled s e in
      let after : after_store shape s e ≡ next = after-relabel shape s e here.0 here.1 quiet in
      let rest = left-after note value x last is of low more next (λ k d l. versioned (suc k) d (omega (arith, l))) (λ word. tt) in
      subst (λ z. Left s (after_stores shape z (more ++ event 0 value ∷ event (1 + x) last ∷ [])) (put_in shape note (1 + x) s.unsealed)) (sym after) record {
        entries = rest.entries;
        unsealed_is = rest.unsealed_is;
        words = λ v. rest.words v ∙ get_or-set_other s.words e.word (first_vertex shape + v) e.value 0 (λ k. omega (arith, k, here.1));
        quiet = rest.quiet;
      }

-- a state that a log leaves, in the words of the contracts
pub leaves-state : (table : TableName) (log : List Event) (t : TableState) → state_of table.shape table.opening log ≡ t → ((word : ℕ) → FollowsNote t.note word)
    → LeavesBeside (record { table = table; log = log }) t.entries t.unsealed (λ v. get_or t.words (first_vertex table.shape + v) 0)
leaves-state table log t is quiet = record {
  entries_are = ap (λ (z : TableState). z.entries) is;
  unsealed_are = ap (λ (z : TableState). z.unsealed) is;
  words_are = λ v. ap (λ ws. get_or ws (first_vertex table.shape + v) 0) (sym (state_of-words table.shape table.opening log))
      ∙ ap (λ (z : TableState). get_or z.words (first_vertex table.shape + v) 0) is;
  quiet = λ word. subst (λ (z : TableState). FollowsNote z.note word) (sym is) (quiet word);
}

-- the word of a vertex, as the state has it
pub state-word : (seen : Seen) (v : ℕ)
    → get_or (state_of seen.table.shape seen.table.opening seen.log).words (first_vertex seen.table.shape + v) 0 ≡ vertex_word_after seen v
state-word seen v = ap (λ ws. get_or ws (first_vertex seen.table.shape + v) 0) (state_of-words seen.table.shape seen.table.opening seen.log)

-- A log that ends with a note and the store of its item leaves the entries and the vertices' words as they were, and nothing announced;
-- the item is open where the note puts it and it is a vertex.
pub EndsWith-leaves : (old new : Seen) (note : NoteWord) (x : ℕ) → EndsWith old new note x → IsFitting note → IsOfItem note → x < old.table.shape.items
    → ((word : ℕ) → FollowsNote (state_of old.table.shape old.table.opening old.log).note word)
    → LeavesBeside new (entries_after old) (put_in old.table.shape note (1 + x) (unsealed_after old)) (vertex_word_after old)
unfolding state_of
EndsWith-leaves old new note x e fitting of low quiet =
    let shape = old.table.shape in
    let s = state_of shape old.table.opening old.log in
    let stores = e.relabels ++ event 0 (note_word note) ∷ event (1 + x) e.value ∷ [] in
    let t = after_stores shape s stores in
    let left = left-after shape note (note_word note) x e.value (note_of-note_word note fitting) of low e.relabels s e.versioned quiet in
    let now : Seen = record { table = old.table; log = old.log ++ stores } in
    let is : new ≡ now = λ i. record { table = e.table i; log = e.log i } in
    let at : state_of shape old.table.opening (old.log ++ stores) ≡ t = after_stores-append shape _ old.log stores in
    let made = leaves-state old.table (old.log ++ stores) t at left.quiet in
    subst (λ (z : Seen). LeavesBeside z (entries_after old) (put_in shape note (1 + x) (unsealed_after old)) (vertex_word_after old)) (sym is) record {
      entries_are = made.entries_are ∙ left.entries;
      unsealed_are = made.unsealed_are ∙ left.unsealed_is;
      words_are = λ v. made.words_are v ∙ (left.words v ∙ state-word old v);
      quiet = made.quiet;
    }

-- what a put leaves
pub put-leaves : (old new : Seen) (x p : ℕ) → EndsWith old new (Put x p) x → IsFitting (Put x p) → x < old.table.shape.items
    → ((word : ℕ) → FollowsNote (state_of old.table.shape old.table.opening old.log).note word)
    → LeavesBeside new (entries_after old) (with_open old.table.shape.fixed x (unsealed_after old)) (vertex_word_after old)
put-leaves old new x p e fitting low quiet =
    let open_is : put_in old.table.shape (Put x p) (1 + x) (unsealed_after old) ≡ with_open old.table.shape.fixed x (unsealed_after old) =
    ap (λ b. cond (b && ltb x old.table.shape.fixed) (x ∷ unsealed_after old) (unsealed_after old)) (eq-eqb (1 + x) (1 + x) refl) in
    subst (λ us. LeavesBeside new (entries_after old) us (vertex_word_after old)) open_is (EndsWith-leaves old new (Put x p) x e fitting
    (put-of_item x p) low quiet)

-- what a take leaves
pub take-leaves : (old new : Seen) (x : ℕ) → EndsWith old new (Take x) x → IsFitting (Take x) → x < old.table.shape.items
    → ((word : ℕ) → FollowsNote (state_of old.table.shape old.table.opening old.log).note word)
    → LeavesBeside new (entries_after old) (unsealed_after old) (vertex_word_after old)
take-leaves old new x e fitting low quiet = EndsWith-leaves old new (Take x) x e fitting (take-of_item x) low quiet
