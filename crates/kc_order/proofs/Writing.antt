-- What a put or a take of a plain list means for the log of its table.
use Rattle.std.proofs.Common.{◌≡◌, ◌≢◌, ◌⊎◌, ℕ, zero, suc, ◌+◌, ◌-◌, ◌<◌, ◌≤◌, ◌^◌, true, cond, List, [], ◌∷◌, ◌++◌, length, set, take, drop, get_or, refl}
use Rattle.std.proofs.Common.{sym, ap, ◌∙◌, subst, inl, inr, arith, get_or-set_same, get_or-set_other, length-set, append_assoc, append-nil, length-append}
use Rattle.std.proofs.lemmas.List.{take-append-le, drop-append-le, take_all}
use Rattle.std.proofs.lemmas.Bool.{cases_eq, eq-eqb}
use Rattle.kc_lists.specs.Lists.{member, without, right_after}
use Rattle.kc_lists.proofs.Members.{member-right_after, member-without}
use Rattle.kc_words.specs.ItemWord.{item_of}
use Rattle.kc_words.specs.VertexWord.{vertex_of}
use Rattle.kc_words.specs.NoteWord.{note_word, IsFitting}
use Rattle.kc_words.proofs.Notes.{note_of-note_word}
use Rattle.kc_words.specs.Order.{Ordered}
use Rattle.kc_words.specs.declared.layout.TheConstants.{ITEM_BITS, LAST_VERSION}
use Rattle.kc_words.specs.declared.note.NoteWord.{NoteWord}
use Rattle.kc_words.specs.declared.note.NoteWord.TheVariants.{Put, Take}
use Rattle.kc_words.specs.declared.shape.Shape.{Shape}
use Rattle.kc_list.specs.Writes.{Write}
use Rattle.kc_list.specs.Sheets as sheet
use Rattle.kc_list.specs.Plain.{Plain, Written}
use Rattle.kc_list.proofs.Highest.{version-highest, highest-below}
use Rattle.kc_table.specs.declared.view.Event.{Event}
use Rattle.kc_table.specs.declared.entry.Entry.{Entry}
use Rattle.kc_table.specs.Log.{TableName, Seen, event, value_at}
use Rattle.kc_table.specs.TableState.{TableState, after_stores, state_of, first_vertex, word_count, moved, entered}
use Rattle.kc_table.specs.Legal as legal
use Rattle.kc_table.proofs.LegalLogs.{legal-push, legal-prefix, legal-last, legal-opens, legal-holds, state_of-push, state_of-words, after_stores-append}
use Rattle.kc_table.proofs.Listed.{list-stands}
use Rattle.kc_table.proofs.Steps.{length-words_after}
use Rattle.kc_order.specs.Standing.{list_after}
use Rattle.kc_order.specs.Writers.{AreRaised, HasVersionsLeft, EndsWith, Puts, Takes, Tied, stores_of, front_of, end_of, log_of_front, log_of_note}
use Rattle.kc_order.specs.Writers.{log_of_all, AreLegal}
use Rattle.kc_order.proofs.Relabelling.{Goes, RelabelsAll, relabel-all}
use Rattle.kc_order.proofs.Ending.{Ends, Ended, put_or_take-ends}
use Rattle.kc_order.proofs.Leaving.{put-leaves, take-leaves}

-- Lists of writes. -------------------------------------------------------------------------------

-- of writes that end with `last` the front is what stands before it
front-snoc : (front : List Write) (last : Write) → front_of (front ++ last ∷ []) ≡ front
front-snoc front last =
    ap (λ n. take n (front ++ last ∷ [])) (omega (arith, length-append front (last ∷ [])))
    ∙ (take-append-le (length front) front (last ∷ []) (omega arith) ∙ take_all (length front) front (omega arith))

-- of writes that end with `last` the end is that one write
end-snoc : (front : List Write) (last : Write) → end_of (front ++ last ∷ []) ≡ last ∷ []
end-snoc front last =
    ap (λ n. drop n (front ++ last ∷ [])) (omega (arith, length-append front (last ∷ [])))
    ∙ (drop-append-le (length front) front (last ∷ []) (omega arith) ∙ ap (λ l. l ++ last ∷ []) (drop-all front))
  where
    drop-all : (xs : List Write) → drop (length xs) xs ≡ []
    drop-all [] = refl
    drop-all (x ∷ xs) = drop-all xs

-- the words after some writes and one more are those after the writes with one store
stored-snoc : (ws : List ℕ) (front : List Write) (last : Write) → sheet.stored ws (front ++ last ∷ []) ≡ set (sheet.stored ws front) last.word last.value
stored-snoc ws [] last = refl
stored-snoc ws (w ∷ front) last = stored-snoc (set ws w.word w.value) front last

-- where writes raise versions, those before the last do, and so does the last after them
raised-front : (ws : List ℕ) (front : List Write) (last : Write) → sheet.RaisedAlong ws (front ++ last ∷ [])
    → sheet.RaisedAlong ws front × sheet.Raises (sheet.stored ws front) last
raised-front ws [] last h = (tt, h.0)
raised-front ws (w ∷ front) last h = let rest = raised-front (set ws w.word w.value) front last h.1 in ((h.0, rest.0), rest.1)

-- a list that is in order along writes is in order after them
ordered-last : (n : ℕ) (list ws : List ℕ) (writes : List Write) → sheet.OrderedAlong n list ws writes → Ordered n (sheet.stored ws writes) list
ordered-last n list ws [] h = h
ordered-last n list ws (w ∷ writes) h = ordered-last n list (set ws w.word w.value) writes h.1

-- writes that raise versions leave the note
raised-word_0 : (ws : List ℕ) (writes : List Write) → sheet.RaisedAlong ws writes → get_or (sheet.stored ws writes) 0 0 ≡ get_or ws 0 0
raised-word_0 ws [] h = refl
raised-word_0 ws (w ∷ writes) h = raised-word_0 (set ws w.word w.value) writes h.1 ∙ get_or-set_other ws w.word 0 w.value 0 (λ e. omega (arith, e, h.0.low))

-- the words of the stores have versions
stores-versioned : (shape : Shape) (ws : List ℕ) (writes : List Write) → length ws ≡ first_vertex shape → sheet.RaisedAlong ws writes
    → (k : ℕ) (d : Event) → k < length (stores_of writes) → legal.IsVersioned shape (get_or (stores_of writes) k d).word
stores-versioned shape ws [] long h k d l = absurd (omega (arith, l))
stores-versioned shape ws (w ∷ writes) long h zero d l = (h.0.low, omega (arith, h.0.high, long))
stores-versioned shape ws (w ∷ writes) long h (suc k) d l =
    stores-versioned shape (set ws w.word w.value) writes (length-set ws w.word w.value ∙ long) h.1 k d (omega (arith, l))

-- the store of the write at a place
abbrev pub store_at : List Write → ℕ → Write → Event
store_at writes i d = event (get_or writes i d).word (get_or writes i d).value

-- the stores of one write more are those so far and its own
stores-take : (writes : List Write) (i : ℕ) (d : Write) → i < length writes
    → stores_of (take (suc i) writes) ≡ stores_of (take i writes) ++ store_at writes i d ∷ []
stores-take [] i d l = absurd (omega (arith, l))
stores-take (w ∷ writes) zero d l = refl
stores-take (w ∷ writes) (suc i) d l = ap (λ z. event w.word w.value ∷ z) (stores-take writes i d (omega (arith, l)))

-- a log with the stores of some writes and then that of the next is one with one write more
pub stores-more : (log now : List Event) (writes : List Write) (i : ℕ) (d : Write) → i < length writes → now ≡ log ++ stores_of (take i writes)
    → now ++ store_at writes i d ∷ [] ≡ log ++ stores_of (take (i + 1) writes)
stores-more log now writes i d l is =
    let next : i + 1 ≡ suc i = omega arith in
    ap (λ z. z ++ store_at writes i d ∷ []) is
    ∙
    (append_assoc log (stores_of (take i writes)) (store_at writes i d ∷ [])
    ∙ ap (λ z. log ++ z) (sym (ap (λ n. stores_of (take n writes)) next ∙ stores-take writes i d l)))

-- the stores of a front of writes and of those behind it are the stores of all
stores-split : (writes : List Write) (n : ℕ) → stores_of (take n writes) ++ stores_of (drop n writes) ≡ stores_of writes
stores-split writes zero = refl
stores-split [] (suc n) = refl
stores-split (w ∷ writes) (suc n) = ap (λ z. event w.word w.value ∷ z) (stores-split writes n)

-- the log with the next store is legal
pub next-legal : (seen now : Seen) (writes : List Write) (i : ℕ) (d : Write) → i < length writes → now.table ≡ seen.table
    → now.log ≡ seen.log ++ stores_of (take i writes) → legal.Legal seen.table.shape seen.table.opening (seen.log ++ stores_of writes)
    → legal.Legal now.table.shape now.table.opening (now.log ++ store_at writes i d ∷ [])
next-legal seen now writes i d l table is h =
    let all : (seen.log ++ stores_of (take (i + 1) writes)) ++ stores_of (drop (i + 1) writes) ≡ seen.log ++ stores_of writes =
    append_assoc seen.log (stores_of (take (i + 1) writes)) (stores_of (drop (i + 1) writes))
    ∙ ap (λ z. seen.log ++ z) (stores-split writes (i + 1)) in
    let part : legal.Legal seen.table.shape seen.table.opening (seen.log ++ stores_of (take (i + 1) writes)) =
    legal-prefix seen.table.shape seen.table.opening (seen.log ++ stores_of (take (i + 1) writes)) (seen.log ++ stores_of writes)
    (stores_of (drop (i + 1) writes), all) h in
    subst (λ (z : TableName × List Event). legal.Legal z.0.shape z.0.opening z.1)
    (λ k. (sym table k, sym (stores-more seen.log now.log writes i d l is) k)) part

-- the word of the next store is one of the table
pub next-there : (seen : Seen) (writes : List Write) (i : ℕ) (d : Write) → i < length writes
    → legal.Legal seen.table.shape seen.table.opening (seen.log ++ stores_of writes) → (words : TableName) → seen.table ≡ words
    → (get_or writes i d).word < word_count words.shape
next-there seen writes i d l h words table =
    let now : Seen = record { table = seen.table; log = seen.log ++ stores_of (take i writes) } in
    let part = next-legal seen now writes i d l refl refl h in
    subst (λ (t : TableName). (store_at writes i d).word < word_count t.shape) table
    (legal-last seen.table.shape seen.table.opening now.log (store_at writes i d) part).there

-- Logs that go on. ---------------------------------------------------------------------------------

module _ (shape : Shape) (opening : List ℕ) where
  -- the state after a longer log is that after the log and the stores behind it
  state_of-append : (log es : List Event) → state_of shape opening (log ++ es) ≡ after_stores shape (state_of shape opening log) es
  unfolding state_of
  state_of-append log es = after_stores-append shape _ log es

  -- a legal log goes on legally by stores that may follow it
  legal-append : (log es : List Event) → legal.Legal shape opening log → legal.LegalFrom shape (state_of shape opening log) es
      → legal.Legal shape opening (log ++ es)
  legal-append log [] h k = subst (legal.Legal shape opening) (sym (append-nil log)) h
  legal-append log (e ∷ es) h k =
      subst (legal.Legal shape opening) (append_assoc log (e ∷ []) es)
      (legal-append (log ++ e ∷ []) es (legal-push shape opening log e h k.0 k.1)
      (subst (λ s. legal.LegalFrom shape s es) (sym (state_of-push shape opening log e)) k.2))

  -- what stays between the stores of a call holds where it begins
  pub call-begins : (log : List Event) (plain : Plain) → legal.Legal shape opening log → length plain.words ≡ first_vertex shape
      → ((w : ℕ) → legal.IsVersioned shape w → get_or plain.words w 0 ≡ value_at opening log w)
      → ((w : ℕ) → legal.FollowsNote (state_of shape opening log).note w) → Goes shape (state_of shape opening log) plain.words
  call-begins log plain h long words quiet = record {
    long = ap length (state_of-words shape opening log) ∙ (length-words_after opening log ∙ (legal-opens shape opening log h).one_each);
    plain_long = long;
    listed = (list-stands shape opening log h).listed;
    words = λ w low high. ap (λ l. get_or l w 0) (state_of-words shape opening log) ∙ sym (words w (low, high));
    stamps = (legal-holds shape opening log h).stamps;
    quiet = quiet;
  }

-- The whole of a call. -----------------------------------------------------------------------------

-- where the writes end with one and are one, none stands before it
no-front : (writes front : List Write) (last : Write) → writes ≡ front ++ last ∷ [] → length writes ≡ 1 → front ≡ []
no-front writes [] last are one = refl
no-front writes (w ∷ front) last are one = absurd (omega (arith, one, ap length are, length-append front (last ∷ [])))

-- what a call leaves, the last of whose writes is `last`
pub record Wrote (seen : Seen) (new : Plain) (v x : ℕ) (writes : List Write) : Type 0 where
  pub some : 0 < length writes
  pub legal_ : AreLegal seen writes v
  pub tied : (now : Seen) → now ≡ record { table = seen.table; log = log_of_all seen.log writes v } → Tied now new
  pub ends_ : (n : NoteWord) → v ≡ note_word n → (now : Seen) → now ≡ record { table = seen.table; log = log_of_all seen.log writes v } → EndsWith seen now n x
  pub single : (n : NoteWord) (is : v ≡ note_word n) (now : Seen) (same : now ≡ record { table = seen.table; log = log_of_all seen.log writes v })
      → length writes ≡ 1 → (ends_ n is now same).relabels ≡ []
  pub list : list_after seen.table (log_of_all seen.log writes v) ≡ new.list

-- what a note may name before the relabelling stores it may name after them
abbrev pub MayAfter : Shape → TableState → NoteWord → Type 0
MayAfter shape s n =
    (t : TableState) → t.list ≡ s.list → t.entries ≡ s.entries → ((k : ℕ) → legal.stamp_in shape t k ≡ legal.stamp_in shape s k)
    → legal.MayNote shape t n

-- the writes of a call and its note leave a legal log, to which the new plain list is tied
pub call-writes : (seen : Seen) (old new : Plain) (n : NoteWord) (x : ℕ) (writes : List Write) → Tied seen old → IsFitting n → writes ≡ new.writes
    → new.items ≡ old.items → new.fixed ≡ old.fixed
    → Written old.items old.list new.list x old.words new.words new.writes → ((w : ℕ) → sheet.version new.words w ≤ LAST_VERSION)
    → x < seen.table.shape.items → ((y : ℕ) → member y new.list ≡ true → y < seen.table.shape.items)
    → MayAfter seen.table.shape (state_of seen.table.shape seen.table.opening seen.log) n
    → ((index : ℕ) (entries : List Entry) → entered index n entries ≡ entries)
    → legal.FollowsNote n (1 + x) → moved n (1 + x) old.list ≡ new.list → note_word n < 2 ^ 64
    → Wrote seen new (note_word n) x writes
call-writes seen old new n x writes tied fitting same items fixed w few x-in within may no-entry follows after fits =
    let shape = seen.table.shape in
    let opening = seen.table.opening in
    let log = seen.log in
    let s = state_of shape opening log in
    let v = note_word n in
    let are : writes ≡ w.front ++ w.last ∷ [] = same ∙ w.are in
    let raised : sheet.RaisedAlong old.words (w.front ++ w.last ∷ []) = subst (sheet.RaisedAlong old.words) w.are w.raised in
    let parts = raised-front old.words w.front w.last raised in
    let ws = sheet.stored old.words w.front in
    let new-words : new.words ≡ set ws w.last.word w.last.value = w.words ∙ (ap (sheet.stored old.words) w.are ∙ stored-snoc old.words w.front w.last) in
    let last-version : sheet.version new.words w.last.word ≡ (item_of w.last.value).version =
    ap (λ z. sheet.version z w.last.word) new-words
    ∙ ap (λ z. (item_of z).version) (get_or-set_same ws w.last.word w.last.value 0 parts.1.high) in
    let front-few : (k : ℕ) → sheet.version ws k ≤ LAST_VERSION = λ k. elim (cases_eq w.last.word k) [
      | inl e ↦ omega (arith, parts.1.version_is, last-version, few w.last.word, ap (sheet.version ws) e)
      | inr ne ↦
          omega (
            arith,
            few k,
            ap (λ z. sheet.version z k) new-words,
            ap (λ z. (item_of z).version) (get_or-set_other ws w.last.word k w.last.value 0 (λ e. ne (sym e))),
          )
    ] in
    let begun = call-begins shape opening log old tied.legal tied.long tied.words tied.quiet in
    let along : sheet.OrderedAlong shape.items s.list old.words w.front =
    subst (λ (z : ℕ × List ℕ). sheet.OrderedAlong z.0 z.1 old.words w.front) (λ i. (tied.items i, tied.list i)) w.along in
    let r : RelabelsAll shape s old.words w.front = relabel-all shape s old.words w.front begun parts.0 along front-few in
    let log1 = log ++ stores_of w.front in
    let t = state_of shape opening log1 in
    let at : t ≡ after_stores shape s (stores_of w.front) = state_of-append shape opening log (stores_of w.front) in
    let legal1 : legal.Legal shape opening log1 = legal-append shape opening log (stores_of w.front) tied.legal r.legal_ in
    let t-list : t.list ≡ s.list = ap (λ z. z.list) at ∙ r.list in
    let t-entries : t.entries ≡ s.entries = ap (λ z. z.entries) at ∙ r.entries in
    let t-stamp : (k : ℕ) → legal.stamp_in shape t k ≡ legal.stamp_in shape s k =
    λ k. ap (λ z. (vertex_of z).stamp) (ap (λ z. get_or z.words (first_vertex shape + k) 0) at ∙ r.words k) in
    let e : Ends shape t ws n v x w.last new.list = record {
      goes = subst (λ z. Goes shape z ws) (sym at) r.goes;
      ordered = subst (Ordered shape.items ws) (sym t-list) (ordered-last shape.items s.list old.words w.front along);
      note_is = note_of-note_word n fitting;
      note_fits = fits;
      may = may t t-list t-entries t-stamp;
      no_entry = no-entry;
      follows = follows;
      x_in = x-in;
      last_is = w.last_is;
      raises = parts.1;
      few = omega (arith, last-version, few w.last.word);
      now = subst (λ (z : ℕ × List ℕ). Ordered z.0 z.1 new.list) (λ i. (tied.items i, new-words i)) w.now;
      after_is = ap (moved n (1 + x)) (t-list ∙ sym tied.list) ∙ after;
    } in
    let done : Ended shape opening log1 v x w.last ws new.list = put_or_take-ends shape opening log1 ws n v x w.last new.list legal1 e within in
    let fronts : log_of_front log writes ≡ log1 = ap (λ z. log ++ stores_of z) (ap front_of are ∙ front-snoc w.front w.last) in
    let notes : log_of_note log writes v ≡ log1 ++ event 0 v ∷ [] = ap (λ z. z ++ event 0 v ∷ []) fronts in
    let lasts : stores_of (end_of writes) ≡ event (1 + x) w.last.value ∷ [] =
    ap stores_of (ap end_of are ∙ end-snoc w.front w.last) ∙ ap (λ k. event k w.last.value ∷ []) w.last_is in
    let all : log_of_all log writes v ≡ (log1 ++ event 0 v ∷ []) ++ event (1 + x) w.last.value ∷ [] =
    ap (λ z. z ++ stores_of (end_of writes)) notes ∙ ap (λ z. (log1 ++ event 0 v ∷ []) ++ z) lasts in
    let plain-note : (item_of (get_or new.words 0 0)).version ≡ 0 =
    ap (λ z. (item_of (get_or z 0 0)).version) w.words
    ∙ (ap (λ z. (item_of z).version) (raised-word_0 old.words new.writes w.raised) ∙ tied.note) in
    let new-long : length new.words ≡ first_vertex shape = ap length new-words ∙ (length-set ws w.last.word w.last.value ∙ r.goes.plain_long) in
    record {
      some = omega (arith, ap length are, length-append w.front (w.last ∷ []));
      legal_ = record {
        front = subst (legal.Legal shape opening) (sym fronts) legal1;
        note = subst (legal.Legal shape opening) (sym notes) done.noted_;
        all = subst (legal.Legal shape opening) (sym all) done.legal_;
      };
      tied = λ now is. subst (λ z. Tied z new) (sym is) record {
        legal = subst (legal.Legal shape opening) (sym all) done.legal_;
        items = items ∙ tied.items;
        fixed = fixed ∙ tied.fixed;
        list = sym (ap (list_after seen.table) all ∙ done.list);
        long = new-long;
        words = λ k h. ap (λ z. get_or z k 0) new-words ∙ (done.words k h.0 h.1 ∙ ap (λ l. value_at opening l k) (sym all));
        note = plain-note;
        quiet = λ k. subst (λ l. legal.FollowsNote (state_of shape opening l).note k) (sym all) (done.quiet k);
      };
      ends_ = λ m is-v now is. record {
        table = ap (λ z. z.table) is;
        relabels = stores_of w.front;
        versioned = λ k d l. stores-versioned shape old.words w.front tied.long parts.0 k d l;
        value = w.last.value;
        log =
            ap (λ z. z.log) is
            ∙
            (all
            ∙
            (append_assoc log1 (event 0 v ∷ []) (event (1 + x) w.last.value ∷ [])
            ∙
            (append_assoc log (stores_of w.front) (event 0 v ∷ event (1 + x) w.last.value ∷ [])
            ∙ ap (λ z. log ++ (stores_of w.front ++ event 0 z ∷ event (1 + x) w.last.value ∷ [])) is-v)));
        legal = subst (λ (z : Seen). legal.Legal z.table.shape z.table.opening z.log) (sym is) (subst (legal.Legal shape opening) (sym all) done.legal_);
      };
      single = λ m is-v now is one. ap stores_of (no-front writes w.front w.last are one);
      list = ap (list_after seen.table) all ∙ done.list;
    }

-- Calls of a writer. -------------------------------------------------------------------------------

-- the versions of a plain list are within what its table's words leave
pub plain-versions : (seen : Seen) (plain : Plain) → Tied seen plain → HasVersionsLeft seen.table seen.log → (w : ℕ)
    → sheet.version plain.words w + 3 ≤ LAST_VERSION
unfolding item_of
plain-versions seen plain tied left zero = omega (arith, tied.note)
plain-versions seen plain tied left (suc w) =
    elim (cases_order (suc w) (first_vertex seen.table.shape)) [
      | inl lt ↦ omega (arith, left (suc w) (omega arith, lt), ap (λ z. (item_of z).version) (tied.words (suc w) (omega arith, lt)))
      | inr ge ↦ omega (arith, ap (λ z. (item_of z).version) (get_or-past plain.words (suc w) 0 (omega (arith, ge, tied.long))))
    ]
  where
    cases_order : (a b : ℕ) → (a < b) ⊎ (b ≤ a)
    cases_order a zero = inr (omega arith)
    cases_order zero (suc b) = inl (omega arith)
    cases_order (suc a) (suc b) = elim (cases_order a b) [ inl l ↦ inl (omega (arith, l)) | inr l ↦ inr (omega (arith, l)) ]

    get_or-past : (xs : List ℕ) (k d : ℕ) → length xs ≤ k → get_or xs k d ≡ d
    get_or-past [] k d l = refl
    get_or-past (x ∷ xs) zero d l = absurd (omega (arith, l))
    get_or-past (x ∷ xs) (suc k) d l = get_or-past xs k d (omega (arith, l))

-- the greatest version of a plain list leaves three where those of its table's words do
pub plain-highest : (seen : Seen) (plain : Plain) → Tied seen plain → HasVersionsLeft seen.table seen.log → sheet.highest_of plain.words + 3 ≤ LAST_VERSION
plain-highest seen plain tied left =
    let h = highest-below plain.words (LAST_VERSION - 3) (λ k. omega (arith, plain-versions seen plain tied left k)) in
    omega (arith, h)

-- where a call raises the greatest version by at most two, no version passes the last
new-versions : (seen : Seen) (old new : Plain) → Tied seen old → HasVersionsLeft seen.table seen.log
    → sheet.highest_of new.words ≤ sheet.highest_of old.words + 2 → (k : ℕ) → sheet.version new.words k ≤ LAST_VERSION
new-versions seen old new tied left highest k = omega (arith, version-highest new.words k, highest, plain-highest seen old tied left)

-- a put, as the writer makes it
pub writer-puts : (seen : Seen) (old new : Plain) (x p : ℕ) (writes : List Write) → Tied seen old → HasVersionsLeft seen.table seen.log
    → x < seen.table.shape.items → member p (list_after seen.table seen.log) ≡ true → x ≢ p
    → (x < seen.table.shape.fixed → legal.MayPut seen.table.shape (state_of seen.table.shape seen.table.opening seen.log) x)
    → writes ≡ new.writes → new.items ≡ old.items → new.fixed ≡ old.fixed → new.list ≡ right_after x p (without x old.list)
    → Written old.items old.list new.list x old.words new.words new.writes
    → sheet.highest_of new.words ≤ sheet.highest_of old.words + 2
    → Wrote seen new (note_word (Put x p)) x writes
unfolding note_word
writer-puts seen old new x p writes tied left x-in p-in differ section same items fixed list w highest =
    let shape = seen.table.shape in
    let s = state_of shape seen.table.opening seen.log in
    let listed = (list-stands shape seen.table.opening seen.log tied.legal).listed in
    let p-below : p < shape.items = listed.within p p-in in
    let within : (y : ℕ) → member y new.list ≡ true
    → y < shape.items = λ y m. elim (member-right_after y x p (without x old.list) (ap (member y) (sym list) ∙ m)) [
      | inl e ↦ omega (arith, e, x-in)
      | inr k ↦ listed.within y (ap (member y) (sym tied.list) ∙ (member-without y x old.list k).0)
    ] in
    let may : MayAfter shape s (Put x p) = λ t t-list t-entries t-stamp. (
      x-in,
      ap (member p) t-list ∙ p-in,
      differ,
      λ l. let m = section l in record { inside = omega (arith, m.inside, ap length t-entries); once = omega (arith, m.once, t-stamp x, ap length t-entries) },
    ) in
    let moves : moved (Put x p) (1 + x) old.list ≡ new.list =
    ap (λ b. cond b (right_after x p (without x old.list)) old.list) (eq-eqb (1 + x) (1 + x) refl) ∙ sym list in
    call-writes seen old new (Put x p) x writes tied (omega (arith, x-in, shape.few_items), omega (arith, p-below, shape.few_items)) same items
    fixed w (new-versions seen old new tied left highest) x-in within may (λ _ _. refl) refl moves (omega (arith, x-in, p-below, shape.few_items))

-- a take, as the writer makes it
pub writer-takes : (seen : Seen) (old new : Plain) (x : ℕ) (writes : List Write) → Tied seen old → HasVersionsLeft seen.table seen.log
    → member x (list_after seen.table seen.log) ≡ true → seen.table.shape.fixed ≤ x
    → writes ≡ new.writes → new.items ≡ old.items → new.fixed ≡ old.fixed → new.list ≡ without x old.list
    → Written old.items old.list new.list x old.words new.words new.writes → sheet.highest_of new.words ≤ sheet.highest_of old.words + 1
    → Wrote seen new (note_word (Take x)) x writes
unfolding note_word
writer-takes seen old new x writes tied left x-in free same items fixed list w highest =
    let shape = seen.table.shape in
    let s = state_of shape seen.table.opening seen.log in
    let listed = (list-stands shape seen.table.opening seen.log tied.legal).listed in
    let x-below : x < shape.items = listed.within x x-in in
    let within : (y : ℕ) → member y new.list ≡ true → y < shape.items =
    λ y m. listed.within y (ap (member y) (sym tied.list) ∙ (member-without y x old.list (ap (member y) (sym list) ∙ m)).0) in
    let may : MayAfter shape s (Take x) = λ t t-list t-entries t-stamp. (ap (member x) t-list ∙ x-in, free) in
    let moves : moved (Take x) (1 + x) old.list ≡ new.list = ap (λ b. cond b (without x old.list) old.list) (eq-eqb (1 + x) (1 + x) refl) ∙ sym list in
    call-writes seen old new (Take x) x writes tied (omega (arith, x-below, shape.few_items)) same items fixed w
    (new-versions seen old new tied left (omega (arith, highest))) x-below within may (λ _ _. refl) refl moves (omega (arith, x-below, shape.few_items))

-- a put, as the writer makes it, where its seat is seen as `now`, of the table `words`
pub put-at : (seen now : Seen) (words : TableName) (old new : Plain) (x p : ℕ) (writes : List Write) → seen ≡ now → now.table ≡ words
    → Tied seen old → HasVersionsLeft now.table now.log → x < words.shape.items
    → member p (list_after now.table now.log) ≡ true → x ≢ p
    → (x < words.shape.fixed → legal.MayPut words.shape (state_of now.table.shape now.table.opening now.log) x)
    → writes ≡ new.writes → new.items ≡ old.items → new.fixed ≡ old.fixed → new.list ≡ right_after x p (without x old.list)
    → Written old.items old.list new.list x old.words new.words new.writes
    → sheet.highest_of new.words ≤ sheet.highest_of old.words + 2
    → Wrote seen new (note_word (Put x p)) x writes
put-at seen now words old new x p writes is table tied left x-in p-in differ section =
    let shape : seen.table.shape ≡ words.shape = ap (λ (t : TableName). t.shape) (ap (λ (z : Seen). z.table) is ∙ table) in
    writer-puts seen old new x p writes tied (subst (λ (z : Seen). HasVersionsLeft z.table z.log) (sym is) left)
    (subst (λ (z : Shape). x < z.items) (sym shape) x-in) (ap (λ (z : Seen). member p (list_after z.table z.log)) is ∙ p-in) differ
    (subst (λ (z : Shape × Seen). x < z.0.fixed → legal.MayPut z.0 (state_of z.1.table.shape z.1.table.opening z.1.log) x)
    (λ i. (sym shape i, sym is i)) section)

-- a take, as the writer makes it, where its seat is seen as `now`, of the table `words`
pub taken-at : (seen now : Seen) (words : TableName) (old new : Plain) (x : ℕ) (writes : List Write) → seen ≡ now → now.table ≡ words
    → Tied seen old → HasVersionsLeft now.table now.log
    → member x (list_after now.table now.log) ≡ true → words.shape.fixed ≤ x
    → writes ≡ new.writes → new.items ≡ old.items → new.fixed ≡ old.fixed → new.list ≡ without x old.list
    → Written old.items old.list new.list x old.words new.words new.writes → sheet.highest_of new.words ≤ sheet.highest_of old.words + 1
    → Wrote seen new (note_word (Take x)) x writes
taken-at seen now words old new x writes is table tied left x-in free =
    let shape : seen.table.shape ≡ words.shape = ap (λ (t : TableName). t.shape) (ap (λ (z : Seen). z.table) is ∙ table) in
    writer-takes seen old new x writes tied (subst (λ (z : Seen). HasVersionsLeft z.table z.log) (sym is) left)
    (ap (λ (z : Seen). member x (list_after z.table z.log)) is ∙ x-in) (subst (λ (z : Shape). z.fixed ≤ x) (sym shape) free)

-- a plain list's greatest version leaves room where the table's words do
pub highest-at : (seen now : Seen) (plain : Plain) → seen ≡ now → Tied seen plain → HasVersionsLeft now.table now.log
    → sheet.highest_of plain.words + 3 ≤ LAST_VERSION
highest-at seen now plain is tied left = plain-highest seen plain tied (subst (λ (z : Seen). HasVersionsLeft z.table z.log) (sym is) left)

-- the numbers of a put fit their note
pub put-fits : (now : Seen) (words : TableName) (x p : ℕ) → legal.Legal now.table.shape now.table.opening now.log → now.table ≡ words → x < words.shape.items
    → member p (list_after now.table now.log) ≡ true → (x < 2 ^ ITEM_BITS) × (p < 2 ^ ITEM_BITS)
put-fits now words x p h table x-in p-in =
    let items = ap (λ (t : TableName). t.shape.items) table in
    let p-below = (list-stands now.table.shape now.table.opening now.log h).listed.within p p-in in
    (omega (arith, x-in, words.shape.few_items), omega (arith, p-below, items, words.shape.few_items))

-- the number of an item in the list fits a note
pub item-fits : (now : Seen) (x : ℕ) → legal.Legal now.table.shape now.table.opening now.log → member x (list_after now.table now.log) ≡ true
    → x < 2 ^ ITEM_BITS
item-fits now x h x-in =
    let below = (list-stands now.table.shape now.table.opening now.log h).listed.within x x-in in omega (arith, below, now.table.shape.few_items)

-- no word of a plain list has been written more than so many times
abbrev pub WrittenAtMost : ℕ → Plain → Plain → Type 0
WrittenAtMost most old new = (k : ℕ) → sheet.version new.words k ≤ sheet.version old.words k + most

-- where a plain list wrote no word more than so many times, no word of its table rose by more
raised-now : (most : ℕ) (seen now : Seen) (old new : Plain) → Tied seen old → Tied now new → now.table ≡ seen.table → WrittenAtMost most old new
    → AreRaised most seen now
raised-now most seen now old new tied after table few = λ k h.
    let there = subst (λ (t : TableName). legal.IsVersioned t.shape k) (sym table) h in
    omega (arith, few k, ap (λ z. (item_of z).version) (tied.words k h), ap (λ z. (item_of z).version) (after.words k there))

-- each word's version rises by at most the number of the writes
raised-at_most : (ws : List ℕ) (writes : List Write) (k : ℕ) → sheet.RaisedAlong ws writes
    → sheet.version (sheet.stored ws writes) k ≤ sheet.version ws k + length writes
raised-at_most ws [] k h = omega arith
raised-at_most ws (w ∷ writes) k h =
    let rest = raised-at_most (set ws w.word w.value) writes k h.1 in
    elim (cases_eq w.word k) [
      | inl e ↦
          let here : sheet.version (set ws w.word w.value) k ≡ (item_of w.value).version =
          ap (λ z. (item_of (get_or (set ws z w.value) k 0)).version) e ∙ ap (λ z. (item_of z).version)
          (get_or-set_same ws k w.value 0 (omega (arith, h.0.high, e))) in
          omega (arith, rest, here, h.0.version_is, ap (sheet.version ws) e)
      | inr ne ↦ omega (arith, rest, ap (λ z. (item_of z).version) (get_or-set_other ws w.word k w.value 0 (λ e. ne (sym e))))
    ]

-- a put writes each word once, and that of its item at most twice
pub twice-put : (old new : Plain) (x : ℕ) → ((w : ℕ) → w ≢ 1 + x → sheet.version new.words w ≤ sheet.version old.words w + 1)
    → sheet.version new.words (1 + x) ≤ sheet.version old.words (1 + x) + 2 → WrittenAtMost 2 old new
twice-put old new x once twice = λ k. elim (cases_eq k (1 + x)) [
  | inl q ↦ omega (arith, twice, ap (sheet.version new.words) q, ap (sheet.version old.words) q)
  | inr ne ↦ omega (arith, once k ne)
]

-- a take makes one write, so it writes no word more than once
pub once-take : (old new : Plain) (x : ℕ) → Written old.items old.list new.list x old.words new.words new.writes → length new.writes ≡ 1
    → WrittenAtMost 1 old new
once-take old new x w single = λ k. omega (arith, raised-at_most old.words new.writes k w.raised, ap (λ l. sheet.version l k) w.words, single)

-- what a put leaves, in the words of the contracts
pub put-list : (seen now : Seen) (old new : Plain) (x p : ℕ) (writes : List Write) → Tied seen old → Wrote seen new (note_word (Put x p)) x writes
    → x < seen.table.shape.items → member p (list_after seen.table seen.log) ≡ true → new.list ≡ right_after x p (without x old.list)
    → now ≡ record { table = seen.table; log = log_of_all seen.log writes (note_word (Put x p)) } → WrittenAtMost 2 old new → Puts seen now x p
put-list seen now old new x p writes tied w x-in p-in list is twice =
    let e = w.ends_ (Put x p) refl now is in
    let p-below = (list-stands seen.table.shape seen.table.opening seen.log tied.legal).listed.within p p-in in
    let few = seen.table.shape.few_items in
    record {
      ends = e;
      list = ap (λ (z : Seen). list_after z.table z.log) is ∙ (w.list ∙ (list ∙ ap (λ l. right_after x p (without x l)) tied.list));
      raised = raised-now 2 seen now old new tied (w.tied now is) e.table twice;
      leaves = put-leaves seen now x p e (omega (arith, x-in, few), omega (arith, p-below, few)) x-in tied.quiet;
    }

-- what a take leaves, in the words of the contracts
pub taken-list : (seen now : Seen) (old new : Plain) (x : ℕ) (writes : List Write) → Tied seen old → Wrote seen new (note_word (Take x)) x writes
    → member x (list_after seen.table seen.log) ≡ true → new.list ≡ without x old.list
    → now ≡ record { table = seen.table; log = log_of_all seen.log writes (note_word (Take x)) } → length writes ≡ 1 → WrittenAtMost 1 old new
    → Takes seen now x
taken-list seen now old new x writes tied w x-in list is one once =
    let e = w.ends_ (Take x) refl now is in
    let x-below = (list-stands seen.table.shape seen.table.opening seen.log tied.legal).listed.within x x-in in
    record {
      ends = e;
      value = e.value;
      single = e.log ∙ ap (λ relabels. seen.log ++ (relabels ++ event 0 (note_word (Take x)) ∷ event (1 + x) e.value ∷ [])) (w.single (Take x) refl now is one);
      list = ap (λ (z : Seen). list_after z.table z.log) is ∙ (w.list ∙ (list ∙ ap (without x) tied.list));
      raised = raised-now 1 seen now old new tied (w.tied now is) e.table once;
      leaves = take-leaves seen now x e (omega (arith, x-below, seen.table.shape.few_items)) x-below tied.quiet;
    }

-- what a put leaves, where the writer's seat was seen as `before`, of the table `words`
pub put-now : (seen before now : Seen) (words : TableName) (old new : Plain) (x p : ℕ) (writes : List Write) → seen ≡ before → before.table ≡ words
    → Tied seen old
    → Wrote seen new (note_word (Put x p)) x writes → x < words.shape.items → member p (list_after before.table before.log) ≡ true
    → new.list ≡ right_after x p (without x old.list)
    → now ≡ record { table = seen.table; log = log_of_all seen.log writes (note_word (Put x p)) } → WrittenAtMost 2 old new → Puts before now x p
put-now seen before now words old new x p writes is table tied w x-in p-in list now-is twice =
    let named : seen.table ≡ words = ap (λ (z : Seen). z.table) is ∙ table in
    subst (λ s. Puts s now x p) is (put-list seen now old new x p writes tied w (subst (λ (t : TableName). x < t.shape.items) (sym named) x-in)
    (ap (λ (z : Seen). member p (list_after z.table z.log)) is ∙ p-in) list now-is twice)

-- what a take leaves, where the writer's seat was seen as `before`
pub taken-now : (seen before now : Seen) (old new : Plain) (x : ℕ) (writes : List Write) → seen ≡ before → Tied seen old
    → Wrote seen new (note_word (Take x)) x writes
    → member x (list_after before.table before.log) ≡ true → new.list ≡ without x old.list
    → now ≡ record { table = seen.table; log = log_of_all seen.log writes (note_word (Take x)) } → length writes ≡ 1 → WrittenAtMost 1 old new
    → Takes before now x
taken-now seen before now old new x writes is tied w x-in list now-is one once = subst (λ s. Takes s now x) is
    (taken-list seen now old new x writes tied w (ap (λ (z : Seen). member x (list_after z.table z.log)) is ∙ x-in) list now-is one once)
