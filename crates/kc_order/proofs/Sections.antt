-- The stores that open a section and seal its vertices.
use Rattle.std.proofs.Common.{◌≡◌, ◌≢◌, ℕ, ◌+◌, ◌*◌, ◌<◌, ◌≤◌, ◌^◌, ◌-◌, Bool, true, false, cond, eqb, List, [], ◌∷◌, ◌++◌, length, set, get_or, eq-eqb}
use Rattle.std.proofs.Common.{ne_eqb, le-leb, refl, sym, ap, ◌∙◌, subst, inl, inr, arith, get_or-set_same, get_or-set_other, length-append}
use Rattle.std.proofs.lemmas.Bool.{cases_eq}
use Rattle.kc_lists.specs.Lists.{without}
use Rattle.kc_words.specs.VertexWord.{vertex_of, vertex_word}
use Rattle.kc_words.specs.NoteWord.{note_of, note_word, IsFitting}
use Rattle.kc_words.proofs.Notes.{index_noted, note_of-note_word}
use Rattle.kc_words.specs.Order.{Ordered}
use Rattle.kc_words.specs.declared.layout.TheConstants.{CORE_BITS, INDEX_BITS, STAMP_BITS}
use Rattle.kc_words.specs.declared.note.NoteWord.TheVariants.{Nothing, Enter}
use Rattle.kc_words.specs.declared.shape.Shape.{Shape}
use Rattle.kc_list.specs.Plain.{Plain}
use Rattle.kc_table.specs.declared.entry.Entry.{Entry}
use Rattle.kc_table.specs.declared.view.Event.{Event}
use Rattle.kc_table.specs.Log.{Seen, event}
use Rattle.kc_table.specs.TableState.{TableState, after_store, state_of, first_vertex, word_count, index_in, sealed}
use Rattle.kc_table.specs.Legal as legal
use Rattle.kc_table.proofs.Entries.{after_store-noted, state_of-entry, state_of-index, with_entry, with_index}
use Rattle.kc_table.proofs.LegalLogs.{legal-push, legal-holds, state_of-push, state_of-words}
use Rattle.kc_table.proofs.Listed.{list-stands}
use Rattle.kc_table.proofs.Steps.{value_at-other}
use Rattle.kc_order.specs.Writers.{LeavesBeside, Stores, StoresEntry, Tied, entries_after, unsealed_after, vertex_word_after, with_store}
use Rattle.kc_order.proofs.Ending.{ended, after-item}
use Rattle.kc_order.proofs.Leaving.{leaves-state, state-word}
use Rattle.kc_order.proofs.Relabelling.{ordered-agree, put_in-quiet, store-quiet}
use Rattle.kc_order.proofs.Writing.{call-begins}

-- a store of a word that is no item's and no group's, after which the list and its words are as they were
pub stored-aside : (seen : Seen) (plain : Plain) (e : Event) → Tied seen plain
    → legal.MayStore seen.table.shape (state_of seen.table.shape seen.table.opening seen.log) e
    → ((w : ℕ) → 1 ≤ w → w < first_vertex seen.table.shape → e.word ≢ w)
    → (t : TableState) → after_store seen.table.shape (state_of seen.table.shape seen.table.opening seen.log) e ≡ t
    → t.list ≡ (state_of seen.table.shape seen.table.opening seen.log).list
    → t.words ≡ set (state_of seen.table.shape seen.table.opening seen.log).words e.word e.value
    → ((v : ℕ) → v < seen.table.shape.fixed → legal.stamp_in seen.table.shape t v ≤ legal.last_entry seen.table.shape t)
    → ((w : ℕ) → legal.FollowsNote t.note w)
    → legal.Legal seen.table.shape seen.table.opening (seen.log ++ e ∷ [])
    × ((now : Seen) → now ≡ record { table = seen.table; log = seen.log ++ e ∷ [] } → Tied now plain)
stored-aside seen plain e tied may aside t is t-list t-words stamps quiet =
    let shape = seen.table.shape in
    let opening = seen.table.opening in
    let s = state_of shape opening seen.log in
    let holds = legal-holds shape opening seen.log tied.legal in
    let same : (w : ℕ) → 1 ≤ w → w < 2 * shape.items + 2 → get_or t.words w 0 ≡ get_or s.words w 0 =
    λ w low high. ap (λ l. get_or l w 0) t-words ∙ get_or-set_other s.words e.word w e.value 0 (λ k. aside w low high (sym k)) in
    let ordered : Ordered shape.items t.words t.list =
    subst (Ordered shape.items t.words) (sym t-list)
    (ordered-agree shape.items s.words t.words s.list holds.ordered (list-stands shape opening seen.log tied.legal).listed.within same) in
    let lawful : legal.Legal shape opening (seen.log ++ e ∷ []) =
    legal-push shape opening seen.log e tied.legal may
    (subst (legal.StateHolds shape) (sym is) record { ordered = ordered; stamps = stamps }) in
    let at : state_of shape opening (seen.log ++ e ∷ []) ≡ t = state_of-push shape opening seen.log e ∙ is in (
      lawful,
      λ now now-is. subst (λ z. Tied z plain) (sym now-is) record {
        legal = lawful;
        items = tied.items;
        fixed = tied.fixed;
        list = tied.list ∙ sym (ap (λ z. z.list) at ∙ t-list);
        long = tied.long;
        words =
            λ w h.
            tied.words w h
            ∙
            (ap (λ l. get_or l w 0) (sym (state_of-words shape opening seen.log))
            ∙
            (sym (same w h.0 h.1)
            ∙
            (ap (λ z. get_or z.words w 0) (sym at)
            ∙ ap (λ l. get_or l w 0) (state_of-words shape opening (seen.log ++ e ∷ [])))));
        note = tied.note;
        quiet = λ w. subst (λ z. legal.FollowsNote z.note w) (sym at) (quiet w);
      },
    )

-- a store to the word of the note leaves the stamps of the vertices
stamp-kept : (shape : Shape) (words : List ℕ) (value v : ℕ)
    → (vertex_of (get_or (set words 0 value) (first_vertex shape + v) 0)).stamp ≡ (vertex_of (get_or words (first_vertex shape + v) 0)).stamp
stamp-kept shape words value v =
    ap (λ (z : ℕ). (vertex_of z).stamp) (get_or-set_other words 0 (first_vertex shape + v) value 0 (λ e. omega (arith, e)))

-- an index may be stored where nothing is announced; the plain list stays tied
pub indexed_at : (seen : Seen) (plain : Plain) (index : ℕ) → Tied seen plain → index < 2 ^ INDEX_BITS
    → legal.Legal seen.table.shape seen.table.opening (seen.log ++ event 0 index ∷ [])
    × ((now : Seen) → now ≡ with_store seen 0 index → Tied now plain)
indexed_at seen plain index tied small =
    let shape = seen.table.shape in
    let s = state_of shape seen.table.opening seen.log in
    let is : note_of index ≡ Nothing = (index_noted index small).0 in
    let t : TableState = with_index s index in
    let may : legal.MayStore shape s (event 0 index) = record {
      there = omega arith;
      fits = omega (arith, small);
      follows = tied.quiet 0;
      note = λ _. subst (legal.MayNote shape s) (sym is) tt;
      fresh = λ k. absurd (omega (arith, k.0));
      seals = λ k e. absurd (omega (arith, e));
    } in
    let stamp : (k : ℕ) → legal.stamp_in shape t k ≡ legal.stamp_in shape s k = λ k. stamp-kept shape s.words index k in
    stored-aside seen plain (event 0 index) tied may (λ w low high e. omega (arith, e, low)) t (after_store-noted shape s index Nothing is) refl refl
    (λ k l. omega (arith, stamp k, (legal-holds shape seen.table.opening seen.log tied.legal).stamps k l))
    (λ w. tt)

-- the note of an entry whose numbers fit has 64 bits
enter-fits : (add : Bool) (u v : ℕ) → IsFitting (Enter add u v) → note_word (Enter add u v) < 2 ^ 64
unfolding note_word
enter-fits true u v h = omega (arith, h.0, h.1)
enter-fits false u v h = omega (arith, h.0, h.1)

-- an Enter note may be stored where no vertex is left to seal; the plain list stays tied
pub entered_at : (seen : Seen) (plain : Plain) (add : Bool) (u v : ℕ) → Tied seen plain → IsFitting (Enter add u v)
    → (state_of seen.table.shape seen.table.opening seen.log).unsealed ≡ []
    → let e = event 0 (note_word (Enter add u v)) in
    legal.Legal seen.table.shape seen.table.opening (seen.log ++ e ∷ [])
    × ((now : Seen) → now ≡ record { table = seen.table; log = seen.log ++ e ∷ [] } → Tied now plain)
entered_at seen plain add u v tied fitting closed =
    let shape = seen.table.shape in
    let n = Enter add u v in
    let value = note_word n in
    let s = state_of shape seen.table.opening seen.log in
    let is : note_of value ≡ n = note_of-note_word n fitting in
    let entry : Entry = record { index = index_in s; add = add; u = u; v = v } in
    let t : TableState =
    record {
      words = set s.words 0 value;
      list = s.list;
      note = n;
      entries = s.entries ++ entry ∷ [];
      unsealed = [];
    } in
    let may : legal.MayStore shape s (event 0 value) = record {
      there = omega arith;
      fits = enter-fits add u v fitting;
      follows = tied.quiet 0;
      note = λ _. subst (legal.MayNote shape s) (sym is) closed;
      fresh = λ k. absurd (omega (arith, k.0));
      seals = λ k e. absurd (omega (arith, e));
    } in
    let stamp : (k : ℕ) → legal.stamp_in shape t k ≡ legal.stamp_in shape s k = λ k. stamp-kept shape s.words value k in
    stored-aside seen plain (event 0 value) tied may (λ w low high e. omega (arith, e, low)) t (after_store-noted shape s value n is) refl refl
    (λ k l.
    omega (
      arith,
      stamp k,
      (legal-holds shape seen.table.opening seen.log tied.legal).stamps k l,
      length-append s.entries (entry ∷ []),
    ))
    (λ w. tt)

-- a vertex word that seals its vertex may be stored, and the plain list stays tied
pub sealed_at : (seen : Seen) (plain : Plain) (v value : ℕ) → Tied seen plain → v < seen.table.shape.fixed → value < 2 ^ 64
    → legal.Seals seen.table.shape (state_of seen.table.shape seen.table.opening seen.log) v value
    → let e = event (first_vertex seen.table.shape + v) value in
    legal.Legal seen.table.shape seen.table.opening (seen.log ++ e ∷ [])
    × ((now : Seen) → now ≡ record { table = seen.table; log = seen.log ++ e ∷ [] } → Tied now plain)
sealed_at seen plain v value tied below fits seals =
    let shape = seen.table.shape in
    let opening = seen.table.opening in
    let s = state_of shape opening seen.log in
    let w = first_vertex shape + v in
    let e = event w value in
    let long : length s.words ≡ word_count shape = (call-begins shape opening seen.log plain tied.legal tied.long tied.words tied.quiet).long in
    let same : (k : ℕ) → w ≡ first_vertex shape + k → v ≡ k = λ k h. omega (arith, h) in
    let may : legal.MayStore shape s e = record {
      there = omega (arith, below);
      fits = fits;
      follows = tied.quiet w;
      note = λ k. absurd (omega (arith, k));
      fresh = λ k. absurd (omega (arith, k.1));
      seals = λ k h. subst (λ z. legal.Seals shape s z value) (same k h) seals;
    } in
    let t = ended shape s e in
    let stamps : (k : ℕ) → k < shape.fixed → legal.stamp_in shape t k ≤ legal.last_entry shape t = λ k l. elim (cases_eq w (first_vertex shape + k)) [
      | inl h ↦
          omega (
            arith,
            seals.stamp,
            ap (λ z. (vertex_of (get_or (set s.words z value) (first_vertex shape + k) 0)).stamp) h,
            ap (λ z. (vertex_of z).stamp) (get_or-set_same s.words (first_vertex shape + k) value 0 (omega (arith, long, l))),
          )
      | inr ne ↦
          omega (
            arith,
            (legal-holds shape opening seen.log tied.legal).stamps k l,
            ap (λ z. (vertex_of z).stamp) (get_or-set_other s.words w (first_vertex shape + k) value 0 (λ h. ne (sym h))),
          )
    ] in
    stored-aside seen plain e tied may (λ k low high h. omega (arith, h, high)) t (after-item shape s e (omega arith))
    (store-quiet s.note w s.list tied.quiet) refl stamps (λ k. tt)

-- what was seen, with both stores of an entry
abbrev pub with_both : Seen → ℕ → ℕ → Seen
with_both seen index note = with_store (with_store seen 0 index) 0 note

-- what the two stores of an entry leave: legal logs, the plain list tied, and the entry behind those before
pub record EntryStored (seen : Seen) (plain : Plain) (index note : ℕ) (entry : Entry) : Type 0 where
  pub indexed : legal.Legal seen.table.shape seen.table.opening (seen.log ++ event 0 index ∷ [])
  pub noted : legal.Legal seen.table.shape seen.table.opening ((seen.log ++ event 0 index ∷ []) ++ event 0 note ∷ [])
  pub tied : (now : Seen) → now ≡ with_both seen index note → Tied now plain
  pub leaves : LeavesBeside (with_both seen index note) (entries_after seen ++ entry ∷ []) [] (vertex_word_after seen)

-- an entry whose numbers fit may be stored where no vertex is left to seal
pub entry-stored : (seen : Seen) (plain : Plain) (index : ℕ) (add : Bool) (u v : ℕ) → Tied seen plain → index < 2 ^ INDEX_BITS → IsFitting (Enter add u v)
    → (state_of seen.table.shape seen.table.opening seen.log).unsealed ≡ []
    → EntryStored seen plain index (note_word (Enter add u v)) (record { index = index; add = add; u = u; v = v })
entry-stored seen plain index add u v tied small fitting closed =
    let shape = seen.table.shape in
    let opening = seen.table.opening in
    let value = note_word (Enter add u v) in
    let between : Seen = with_store seen 0 index in
    let first = indexed_at seen plain index tied small in
    let none : (state_of shape opening between.log).unsealed ≡ [] =
    ap (λ (z : TableState). z.unsealed) (state_of-index shape opening seen.log index small) ∙ closed in
    let second = entered_at between plain add u v (first.1 between refl) fitting none in
    let made = leaves-state seen.table (between.log ++ event 0 value ∷ []) (with_entry (state_of shape opening seen.log) index add u v)
    (state_of-entry shape opening seen.log index add u v tied.legal small fitting) (λ word. tt) in
    record {
      indexed = first.0;
      noted = second.0;
      tied = second.1;
      leaves = record {
        entries_are = made.entries_are;
        unsealed_are = made.unsealed_are;
        words_are = λ k. value_at-other opening between.log (event 0 value) (first_vertex shape + k) (λ q. omega (arith, q))
            ∙ value_at-other opening seen.log (event 0 index) (first_vertex shape + k) (λ q. omega (arith, q));
        quiet = made.quiet;
      };
    }

-- the two stores of an entry, as the calls tell of them
pub both-stored : (seen between new : Seen) (first index second note : ℕ) → between ≡ with_store seen 0 first → first ≡ index
    → new ≡ with_store between 0 second → second ≡ note → new ≡ with_both seen index note
both-stored seen between new first index second note between-is first-is new-is second-is =
    new-is ∙ (λ i. with_store ((between-is ∙ ap (λ (k : ℕ). with_store seen 0 k) first-is) i) 0 (second-is i))

-- what both stores leave, in the words of the contracts
pub stores-entry : (seen now new : Seen) (plain : Plain) (index note : ℕ) (entry : Entry) → seen ≡ now → EntryStored seen plain index note entry
    → new ≡ with_both seen index note
    → StoresEntry now new index note × LeavesBeside new (entries_after now ++ entry ∷ []) [] (vertex_word_after now)
stores-entry seen now new plain index note entry is h new-is =
    subst (λ (z : Seen × Seen). StoresEntry z.0 z.1 index note × LeavesBeside z.1 (entries_after z.0 ++ entry ∷ []) [] (vertex_word_after z.0))
    (λ i. (is i, sym new-is i))
    (record { indexed = record { is = refl; legal = h.indexed }; noted = record { is = refl; legal = h.noted } }, h.leaves)

-- what a vertex word leaves beside the list
pub vertex-leaves : (seen : Seen) (plain : Plain) (v value : ℕ) → Tied seen plain → v < seen.table.shape.fixed
    → LeavesBeside (with_store seen (first_vertex seen.table.shape + v) value) (entries_after seen) (without v (unsealed_after seen))
    (λ w. cond (eqb w v) value (vertex_word_after seen w))
vertex-leaves seen plain v value tied below =
    let shape = seen.table.shape in
    let opening = seen.table.opening in
    let s = state_of shape opening seen.log in
    let w = first_vertex shape + v in
    let e = event w value in
    let t = ended shape s e in
    let at : state_of shape opening (seen.log ++ e ∷ []) ≡ t = state_of-push shape opening seen.log e ∙ after-item shape s e (omega arith) in
    let made = leaves-state seen.table (seen.log ++ e ∷ []) t at (λ word. tt) in
    let long : length s.words ≡ word_count shape = (call-begins shape opening seen.log plain tied.legal tied.long tied.words tied.quiet).long in
    let here : w - first_vertex shape ≡ v = omega arith in
    let sealed_is : sealed shape w s.unsealed ≡ without v s.unsealed =
    ap (λ b. cond b (without (w - first_vertex shape) s.unsealed) s.unsealed) (le-leb (first_vertex shape) w (omega arith)) ∙ ap (λ k. without k s.unsealed)
    here in
    record {
      entries_are = made.entries_are;
      unsealed_are = made.unsealed_are ∙ (put_in-quiet shape s.note w (sealed shape w s.unsealed) tied.quiet ∙ sealed_is);
      words_are = λ k. made.words_are k ∙ elim (cases_eq k v) [
        | inl q ↦
            ap (λ z. get_or (set s.words w value) (first_vertex shape + z) 0) q
            ∙ (get_or-set_same s.words w value 0 (omega (arith, long, below)) ∙ ap (λ b. cond b value (vertex_word_after seen k)) (sym (eq-eqb k v q)))
        | inr ne ↦
            get_or-set_other s.words w (first_vertex shape + k) value 0 (λ q. ne (omega (arith, q)))
            ∙ (state-word seen k ∙ ap (λ b. cond b value (vertex_word_after seen k)) (sym (ne_eqb k v ne)))
      ];
      quiet = made.quiet;
    }

-- what a call leaves, where its seat was seen as `now`
pub leaves-now : (seen now new : Seen) (word value : ℕ) (entries : Seen → List Entry) (unsealed : Seen → List ℕ) (words : Seen → ℕ → ℕ) → seen ≡ now
    → new ≡ record { table = seen.table; log = seen.log ++ event word value ∷ [] }
    → LeavesBeside (record { table = seen.table; log = seen.log ++ event word value ∷ [] }) (entries seen) (unsealed seen) (words seen)
    → LeavesBeside new (entries now) (unsealed now) (words now)
leaves-now seen now new word value entries unsealed words is new-is h =
    subst (λ (z : Seen × Seen). LeavesBeside z.0 (entries z.1) (unsealed z.1) (words z.1)) (λ i. (sym new-is i, is i)) h

-- what one store leaves, in the words of the contracts
pub stores-now : (seen now new : Seen) (word value : ℕ) → seen ≡ now
    → legal.Legal seen.table.shape seen.table.opening (seen.log ++ event word value ∷ [])
    → new ≡ record { table = seen.table; log = seen.log ++ event word value ∷ [] } → Stores now new word value
stores-now seen now new word value is lawful new-is = record {
  is = new-is ∙ ap (λ (z : Seen). record { table = z.table; log = z.log ++ event word value ∷ [] }) is;
  legal = subst (λ (z : Seen). legal.Legal z.table.shape z.table.opening z.log) (sym new-is) lawful;
}

-- the word of a vertex whose stamp and core number fit has 64 bits
pub fits-vertex : (stamp core : ℕ) → stamp < 2 ^ STAMP_BITS → core < 2 ^ CORE_BITS → vertex_word (record { stamp = stamp; core = core }) < 2 ^ 64
unfolding vertex_word
fits-vertex stamp core a b = omega (arith, a, b)
