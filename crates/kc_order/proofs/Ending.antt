-- After its relabelling stores a put or a take stores its note and then the word of its item.
use Rattle.std.proofs.Common.{◌≡◌, ℕ, ◌+◌, ◌<◌, ◌≤◌, ◌^◌, true, List, [], ◌∷◌, ◌++◌, length, set, get_or, refl, sym, ap, ◌∙◌, subst, arith}
use Rattle.std.proofs.Common.{get_or-set_other, length-set}
use Rattle.std.proofs.lemmas.Bool.{ne_eqb}
use Rattle.kc_lists.specs.Lists.{member}
use Rattle.kc_words.specs.ItemWord.{item_of}
use Rattle.kc_words.specs.VertexWord.{vertex_of}
use Rattle.kc_words.specs.NoteWord.{note_of}
use Rattle.kc_words.specs.Order.{Ordered}
use Rattle.kc_words.specs.declared.layout.TheConstants.{LAST_VERSION}
use Rattle.kc_words.specs.declared.note.NoteWord.{NoteWord}
use Rattle.kc_words.specs.declared.note.NoteWord.TheVariants.{Nothing}
use Rattle.kc_words.specs.declared.shape.Shape.{Shape}
use Rattle.kc_list.specs.Writes.{Write}
use Rattle.kc_list.specs.Sheets as sheet
use Rattle.kc_table.specs.declared.view.Event.{Event}
use Rattle.kc_table.specs.declared.entry.Entry.{Entry}
use Rattle.kc_table.specs.Log.{event, value_at}
use Rattle.kc_table.specs.TableState.{TableState, after_store, state_of, first_vertex, word_count, moved, entered, index_in, unsealed_from, put_in, sealed}
use Rattle.kc_table.specs.Legal as legal
use Rattle.kc_table.proofs.LegalLogs.{legal-push, state_of-push, state_of-words}
use Rattle.kc_order.proofs.Relabelling.{Goes, ordered-agree, value-fits, set-agree}

-- the state after the note
abbrev pub noted : TableState → ℕ → TableState
noted s v =
    record {
      words = set s.words 0 v;
      list = s.list;
      note = note_of v;
      entries = entered (index_in s) (note_of v) s.entries;
      unsealed = unsealed_from (note_of v) s.unsealed;
    }

-- the state after the store of the item's word
abbrev pub ended : Shape → TableState → Event → TableState
ended shape s e =
    record {
      words = set s.words e.word e.value;
      list = moved s.note e.word s.list;
      note = Nothing;
      entries = s.entries;
      unsealed = put_in shape s.note e.word (sealed shape e.word s.unsealed);
    }

-- a store of the note leaves the state after the note
after-note : (shape : Shape) (s : TableState) (v : ℕ) → after_store shape s (event 0 v) ≡ noted s v
after-note shape s v = refl

-- a store of any word but the note does what was announced, and leaves this state
pub after-item : (shape : Shape) (s : TableState) (e : Event) → 1 ≤ e.word → after_store shape s e ≡ ended shape s e
after-item shape s e low = rw (ne_eqb e.word 0 (λ k. omega (arith, low, k))) refl

-- what a put or a take needs where its note is stored
pub record Ends (shape : Shape) (s : TableState) (ws : List ℕ) (n : NoteWord) (v x : ℕ) (last : Write) (after : List ℕ) : Type 0 where
  pub goes : Goes shape s ws
  pub ordered : Ordered shape.items ws s.list
  pub note_is : note_of v ≡ n
  pub note_fits : v < 2 ^ 64
  pub may : legal.MayNote shape s n
  pub no_entry : (index : ℕ) (entries : List Entry) → entered index n entries ≡ entries
  pub follows : legal.FollowsNote n (1 + x)
  pub x_in : x < shape.items
  pub last_is : last.word ≡ 1 + x
  pub raises : sheet.Raises ws last
  pub few : (item_of last.value).version ≤ LAST_VERSION
  pub now : Ordered shape.items (set ws last.word last.value) after
  pub after_is : moved n (1 + x) s.list ≡ after

-- what a put or a take leaves: both stores legal, the list as it should be, and nothing announced
pub record Ended (shape : Shape) (opening : List ℕ) (log : List Event) (v x : ℕ) (last : Write) (ws after : List ℕ) : Type 0 where
  pub noted_ : legal.Legal shape opening (log ++ event 0 v ∷ [])
  pub legal_ : legal.Legal shape opening ((log ++ event 0 v ∷ []) ++ event (1 + x) last.value ∷ [])
  pub list : (state_of shape opening ((log ++ event 0 v ∷ []) ++ event (1 + x) last.value ∷ [])).list ≡ after
  pub words : (w : ℕ) → 1 ≤ w → w < first_vertex shape
      → get_or (set ws last.word last.value) w 0 ≡ value_at opening ((log ++ event 0 v ∷ []) ++ event (1 + x) last.value ∷ []) w
  pub quiet : (w : ℕ) → legal.FollowsNote (state_of shape opening ((log ++ event 0 v ∷ []) ++ event (1 + x) last.value ∷ [])).note w

-- a put or a take that has what it needs stores its note and the word of its item
pub put_or_take-ends : (shape : Shape) (opening : List ℕ) (log : List Event) (ws : List ℕ) (n : NoteWord) (v x : ℕ) (last : Write) (after : List ℕ)
    → legal.Legal shape opening log → Ends shape (state_of shape opening log) ws n v x last after
    → ((y : ℕ) → member y after ≡ true → y < shape.items) → Ended shape opening log v x last ws after
put_or_take-ends shape opening log ws n v x last after lawful h within =
    let s = state_of shape opening log in
    let g = h.goes in
    let t = noted s v in
    let e = event (1 + x) last.value in
    -- the note
    let may-note : legal.MayStore shape s (event 0 v) = record {
      there = omega arith;
      fits = h.note_fits;
      follows = g.quiet 0;
      note = λ _. subst (legal.MayNote shape s) (sym h.note_is) h.may;
      fresh = λ k. absurd (omega (arith, k.0));
      seals = λ k is. absurd (omega (arith, is));
    } in
    let entries : t.entries ≡ s.entries = ap (λ z. entered (index_in s) z s.entries) h.note_is ∙ h.no_entry (index_in s) s.entries in
    let last-entry : legal.last_entry shape t ≡ legal.last_entry shape s = ap (λ es. shape.base + length es) entries in
    let note-words : (w : ℕ) → 1 ≤ w → get_or t.words w 0 ≡ get_or s.words w 0 = λ w low. get_or-set_other s.words 0 w v 0 (λ k. omega (arith, low, k)) in
    let note-stamp : (k : ℕ) → legal.stamp_in shape t k ≡ legal.stamp_in shape s k =
    λ k. ap (λ z. (vertex_of z).stamp) (note-words (first_vertex shape + k) (omega arith)) in
    let note-stamps : (k : ℕ) → k < shape.fixed → legal.stamp_in shape t k ≤ legal.last_entry shape t =
    λ k l. omega (arith, note-stamp k, g.stamps k l, last-entry) in
    let note-ordered : Ordered shape.items t.words s.list =
    ordered-agree shape.items ws t.words s.list h.ordered g.listed.within (λ w low high. note-words w low ∙ g.words w low high) in
    let noted-legal : legal.Legal shape opening (log ++ event 0 v ∷ []) =
    legal-push shape opening log (event 0 v) lawful may-note record { ordered = note-ordered; stamps = note-stamps } in
    let at-note : state_of shape opening (log ++ event 0 v ∷ []) ≡ t = state_of-push shape opening log (event 0 v) in
    -- the item's word
    let high : 1 + x < first_vertex shape = omega (arith, h.x_in) in
    let long : length t.words ≡ word_count shape = length-set s.words 0 v ∙ g.long in
    let in-ws : last.word < length ws = h.raises.high in
    let in-t : last.word < length t.words = omega (arith, h.last_is, high, long) in
    let may-item : legal.MayStore shape t e = record {
      there = omega (arith, high);
      fits = value-fits last.value h.few;
      follows = subst (λ z. legal.FollowsNote z (1 + x)) (sym h.note_is) h.follows;
      note = λ k. absurd (omega (arith, k));
      fresh =
          λ _.
          h.raises.version_is
          ∙ ap (λ z. (item_of z).version + 1)
          (ap (λ k. get_or ws k 0) h.last_is ∙ (sym (g.words (1 + x) (omega arith) high) ∙ sym (note-words (1 + x) (omega arith))));
      seals = λ k is. absurd (omega (arith, is, high));
    } in
    let u = ended shape t e in
    let agree : (w : ℕ) → 1 ≤ w → w < first_vertex shape → get_or u.words w 0 ≡ get_or (set ws last.word last.value) w 0 = λ w low up.
    ap (λ k. get_or (set t.words k last.value) w 0) (sym h.last_is)
    ∙ set-agree t.words ws last.word last.value w in-t in-ws (note-words w low ∙ g.words w low up) in
    let list : u.list ≡ after = ap (λ z. moved z (1 + x) s.list) h.note_is ∙ h.after_is in
    let item-stamp : (k : ℕ) → legal.stamp_in shape u k ≡ legal.stamp_in shape t k =
    λ k.
    ap (λ z. (vertex_of z).stamp)
    (get_or-set_other t.words (1 + x) (first_vertex shape + k) last.value 0 (λ is. omega (arith, is, high))) in
    let item-holds : legal.StateHolds shape u = record {
      ordered = subst (Ordered shape.items u.words) (sym list) (ordered-agree shape.items (set ws last.word last.value) u.words after h.now within agree);
      stamps = λ k l. omega (arith, item-stamp k, note-stamps k l);
    } in
    let is : after_store shape t e ≡ u = after-item shape t e (omega arith) in
    let at-end : state_of shape opening ((log ++ event 0 v ∷ []) ++ e ∷ []) ≡ u =
    state_of-push shape opening (log ++ event 0 v ∷ []) e ∙ (ap (λ z. after_store shape z e) at-note ∙ is) in
    record {
      noted_ = noted-legal;
      legal_ = legal-push shape opening (log ++ event 0 v ∷ []) e noted-legal (subst (λ z. legal.MayStore shape z e) (sym at-note) may-item)
          (subst (legal.StateHolds shape) (sym (ap (λ z. after_store shape z e) at-note ∙ is)) item-holds);
      list = ap (λ z. z.list) at-end ∙ list;
      words =
          λ w low up.
          sym (agree w low up)
          ∙
          (ap (λ z. get_or z.words w 0) (sym at-end)
          ∙ ap (λ l. get_or l w 0) (state_of-words shape opening ((log ++ event 0 v ∷ []) ++ e ∷ [])));
      quiet = λ w. subst (λ z. legal.FollowsNote z.note w) (sym at-end) tt;
    }
