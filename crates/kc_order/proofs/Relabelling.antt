-- The writes of a plain list, stored one by one, keep a log legal.
use Rattle.std.proofs.Common.{◌≡◌, ℕ, ◌+◌, ◌*◌, ◌-◌, ◌<◌, ◌≤◌, ◌^◌, true, false, cond, List, [], ◌∷◌, length, set, get_or, eqb, leb, refl, sym, ap}
use Rattle.std.proofs.Common.{◌∙◌, subst, inl, inr, arith, get_or-set_same, get_or-set_other, length-set}
use Rattle.std.proofs.lemmas.Bool.{cases_eq, ne_eqb, lt-leb}
use Rattle.kc_lists.specs.Lists.{member, without}
use Rattle.kc_words.specs.ItemWord.{item_of}
use Rattle.kc_words.specs.GroupWord.{group_of}
use Rattle.kc_words.specs.VertexWord.{vertex_of}
use Rattle.kc_words.specs.Order.{labels, PairBelow, Ordered}
use Rattle.kc_words.proofs.Ordering.{InOrder-mono}
use Rattle.kc_words.specs.declared.layout.TheConstants.{LAST_VERSION}
use Rattle.kc_words.specs.declared.note.NoteWord.{NoteWord}
use Rattle.kc_words.specs.declared.note.NoteWord.TheVariants.{Nothing, Enter, Put, Take}
use Rattle.kc_words.specs.declared.shape.Shape.{Shape}
use Rattle.kc_list.specs.Writes.{Write}
use Rattle.kc_list.specs.Sheets as sheet
use Rattle.kc_table.specs.declared.view.Event.{Event}
use Rattle.kc_table.specs.Log.{event}
use Rattle.kc_table.specs.TableState.{TableState, after_store, after_stores, first_vertex, word_count, moved, put_in, sealed}
use Rattle.kc_table.specs.Legal as legal
use Rattle.kc_table.proofs.Listed.{Listed}
use Rattle.kc_order.specs.Writers.{stores_of}

-- two words that agree but for the note and the vertices order a list alike
pub ordered-agree : (n : ℕ) (ws vs list : List ℕ) → Ordered n ws list → ((x : ℕ) → member x list ≡ true → x < n)
    → ((w : ℕ) → 1 ≤ w → w < 2 * n + 2 → get_or vs w 0 ≡ get_or ws w 0) → Ordered n vs list
ordered-agree n ws vs list o within same =
    let a = labels n ws in
    let b = labels n vs in
    let item : (x : ℕ) → x < n → get_or vs (1 + x) 0 ≡ get_or ws (1 + x) 0 = λ x l. same (1 + x) (omega arith) (omega arith) in
    let group : (x : ℕ) → x < n → b.group x ≡ a.group x = λ x l. ap (λ v. (item_of v).group) (item x l) in
    let bottom : (x : ℕ) → x < n → b.bottom x ≡ a.bottom x = λ x l. ap (λ v. (item_of v).bottom) (item x l) in
    let top : (x : ℕ) → member x list ≡ true → b.top (b.group x) ≡ a.top (a.group x) =
    λ x m.
    ap b.top (group x (within x m))
    ∙ ap (λ v. (group_of v).top) (same (n + a.group x) (omega (arith, (o.inside x m).0)) (omega (arith, (o.inside x m).1))) in
    record {
      pairs = InOrder-mono (PairBelow a) (PairBelow b) list (λ y z y-in z-in h. elim h [
        | inl lt ↦ inl (omega (arith, lt, top y y-in, top z z-in))
        | inr e ↦ inr (top y y-in ∙ (e.0 ∙ sym (top z z-in)), omega (arith, e.1, bottom y (within y y-in), bottom z (within z z-in)))
      ]) o.pairs;
      inside = λ x m. let g = group x (within x m) in let i = o.inside x m in (omega (arith, g, i.0), omega (arith, g, i.1));
      outside = λ x l m. group x l ∙ o.outside x l m;
    }

-- what stays between the stores of a call: the list's items, the plain list's words, the stamps, and that nothing is announced
pub record Goes (shape : Shape) (s : TableState) (ws : List ℕ) : Type 0 where
  pub long : length s.words ≡ word_count shape
  pub plain_long : length ws ≡ first_vertex shape
  pub listed : Listed shape s.list
  pub words : (w : ℕ) → 1 ≤ w → w < first_vertex shape → get_or s.words w 0 ≡ get_or ws w 0
  pub stamps : (v : ℕ) → v < shape.fixed → legal.stamp_in shape s v ≤ legal.last_entry shape s
  pub quiet : (w : ℕ) → legal.FollowsNote s.note w

-- a word with a version is no note
not_note : (w : ℕ) → 1 ≤ w → eqb w 0 ≡ false
not_note w l = ne_eqb w 0 (λ e. omega (arith, l, e))

-- a store of a word where nothing is announced moves no item
pub store-quiet : (note : NoteWord) (w : ℕ) (list : List ℕ) → ((v : ℕ) → legal.FollowsNote note v) → moved note w list ≡ list
store-quiet Nothing w list q = refl
store-quiet (Enter add u v) w list q = refl
store-quiet (Put x p) w list q = absurd (omega (arith, q 0))
store-quiet (Take x) w list q = absurd (omega (arith, q 0))

-- a store of a word where nothing is announced opens no vertex
pub put_in-quiet : (shape : Shape) (note : NoteWord) (w : ℕ) (unsealed : List ℕ) → ((v : ℕ) → legal.FollowsNote note v)
    → put_in shape note w unsealed ≡ unsealed
put_in-quiet shape Nothing w unsealed q = refl
put_in-quiet shape (Enter add u v) w unsealed q = refl
put_in-quiet shape (Put x p) w unsealed q = absurd (omega (arith, q 0))
put_in-quiet shape (Take x) w unsealed q = refl

-- the state after a store of an item's or a group's word where nothing is announced
abbrev pub relabelled : TableState → Event → TableState
relabelled s e = record { words = set s.words e.word e.value; list = s.list; note = Nothing; entries = s.entries; unsealed = s.unsealed }

-- a store of an item's or a group's word where nothing is announced changes the words alone
pub after-relabel : (shape : Shape) (s : TableState) (e : Event) → 1 ≤ e.word → e.word < first_vertex shape → ((w : ℕ) → legal.FollowsNote s.note w)
    → after_store shape s e ≡ relabelled s e
after-relabel shape s e low high q =
    let no_vertex : leb (first_vertex shape) e.word ≡ false = lt-leb (first_vertex shape) e.word high in
    rw (not_note e.word low) (λ i. record {
      words = set s.words e.word e.value;
      list = store-quiet s.note e.word s.list q i;
      note = Nothing;
      entries = s.entries;
      unsealed =
          (put_in-quiet shape s.note e.word (sealed shape e.word s.unsealed) q
          ∙ ap (λ b. cond b (without (e.word - first_vertex shape) s.unsealed) s.unsealed) no_vertex)
          i;
    })

-- one write of a plain list, stored where nothing is announced
pub record Relabels (shape : Shape) (s : TableState) (ws : List ℕ) (e : Event) : Type 0 where
  pub may : legal.MayStore shape s e
  pub holds : legal.StateHolds shape (relabelled s e)
  pub goes : Goes shape (relabelled s e) (set ws e.word e.value)

-- a word whose version is no greater than the last one has 64 bits
pub value-fits : (value : ℕ) → (item_of value).version ≤ LAST_VERSION → value < 2 ^ 64
unfolding item_of
value-fits value h = omega (arith, h)

-- two lists that agree at a place agree there after one store to both
pub set-agree : (xs ys : List ℕ) (k v w : ℕ) → k < length xs → k < length ys → get_or xs w 0 ≡ get_or ys w 0 → get_or (set xs k v) w 0 ≡ get_or (set ys k v) w 0
set-agree xs ys k v w x-in y-in same =
    elim (cases_eq k w) [
      | inl e ↦
          ap (λ z. get_or (set xs z v) w 0) e
          ∙
          (get_or-set_same xs w v 0 (omega (arith, x-in, e))
          ∙ (sym (get_or-set_same ys w v 0 (omega (arith, y-in, e))) ∙ ap (λ z. get_or (set ys z v) w 0) (sym e)))
      | inr ne ↦ get_or-set_other xs k w v 0 (λ e. ne (sym e)) ∙ (same ∙ sym (get_or-set_other ys k w v 0 (λ e. ne (sym e))))
    ]

-- a write that keeps the order and raises a version may be stored where nothing is announced
pub write-relabels : (shape : Shape) (s : TableState) (ws : List ℕ) (w : Write) → Goes shape s ws → sheet.Raises ws w → (item_of w.value).version ≤ LAST_VERSION
    → Ordered shape.items (set ws w.word w.value) s.list → Relabels shape s ws (event w.word w.value)
write-relabels shape s ws w g r few o =
    let high : w.word < first_vertex shape = omega (arith, r.high, g.plain_long) in
    let in-words : w.word < length s.words = omega (arith, high, g.long) in
    let same : (k : ℕ) → 1 ≤ k → k < first_vertex shape → get_or (set s.words w.word w.value) k 0 ≡ get_or (set ws w.word w.value) k 0 =
    λ k low up. set-agree s.words ws w.word w.value k in-words r.high (g.words k low up) in
    let stamp : (v : ℕ) → legal.stamp_in shape (relabelled s (event w.word w.value)) v ≡ legal.stamp_in shape s v =
    λ v.
    ap (λ z. (vertex_of z).stamp) (get_or-set_other s.words w.word (first_vertex shape + v) w.value 0 (λ e. omega (arith, e, high))) in
    let stamps : (v : ℕ) → v < shape.fixed → legal.stamp_in shape (relabelled s (event w.word w.value)) v ≤ legal.last_entry shape s =
    λ v l. omega (arith, stamp v, g.stamps v l) in
    record {
      may = record {
        there = omega (arith, high);
        fits = value-fits w.value few;
        follows = g.quiet w.word;
        note = λ e. absurd (omega (arith, e, r.low));
        fresh = λ _. r.version_is ∙ ap (λ z. (item_of z).version + 1) (sym (g.words w.word r.low high));
        seals = λ v e. absurd (omega (arith, e, high));
      };
      holds = record {
        ordered = ordered-agree shape.items (set ws w.word w.value) (set s.words w.word w.value) s.list o g.listed.within same;
        stamps = stamps;
      };
      goes = record {
        long = length-set s.words w.word w.value ∙ g.long;
        plain_long = length-set ws w.word w.value ∙ g.plain_long;
        listed = g.listed;
        words = same;
        stamps = stamps;
        quiet = λ _. tt;
      };
    }

-- what all writes of a plain list leave that are stored one by one
pub record RelabelsAll (shape : Shape) (s : TableState) (ws : List ℕ) (writes : List Write) : Type 0 where
  pub legal_ : legal.LegalFrom shape s (stores_of writes)
  pub goes : Goes shape (after_stores shape s (stores_of writes)) (sheet.stored ws writes)
  pub list : (after_stores shape s (stores_of writes)).list ≡ s.list
  pub entries : (after_stores shape s (stores_of writes)).entries ≡ s.entries
  pub words : (v : ℕ) → get_or (after_stores shape s (stores_of writes)).words (first_vertex shape + v) 0 ≡ get_or s.words (first_vertex shape + v) 0

-- the version of a word never falls
pub raised-bound : (ws : List ℕ) (writes : List Write) (w : ℕ) → sheet.RaisedAlong ws writes → sheet.version ws w ≤ sheet.version (sheet.stored ws writes) w
raised-bound ws [] w h = omega arith
raised-bound ws (s ∷ ss) w h =
    let rest = raised-bound (set ws s.word s.value) ss w h.1 in
    elim (cases_eq s.word w) [
      | inl e ↦
          let here : sheet.version (set ws s.word s.value) w ≡ (item_of s.value).version =
          ap (λ z. (item_of (get_or (set ws z s.value) w 0)).version) e
          ∙ ap (λ z. (item_of z).version) (get_or-set_same ws w s.value 0 (omega (arith, h.0.high, e))) in
          omega (arith, rest, here, h.0.version_is, ap (sheet.version ws) e)
      | inr ne ↦ omega (arith, rest, ap (λ z. (item_of z).version) (get_or-set_other ws s.word w s.value 0 (λ e. ne (sym e))))
    ]

-- a list that is in order along writes is in order before them
ordered-first : (n : ℕ) (list ws : List ℕ) (writes : List Write) → sheet.OrderedAlong n list ws writes → Ordered n ws list
ordered-first n list ws [] h = h
ordered-first n list ws (s ∷ ss) h = h.0

-- all writes that keep the order and raise versions may be stored one by one
pub relabel-all : (shape : Shape) (s : TableState) (ws : List ℕ) (writes : List Write) → Goes shape s ws → sheet.RaisedAlong ws writes
    → sheet.OrderedAlong shape.items s.list ws writes → ((w : ℕ) → sheet.version (sheet.stored ws writes) w ≤ LAST_VERSION) → RelabelsAll shape s ws writes
relabel-all shape s ws [] g r o few = record { legal_ = tt; goes = g; list = refl; entries = refl; words = λ v. refl }
relabel-all shape s ws (w ∷ writes) g r o few =
    let e = event w.word w.value in
    let vs = set ws w.word w.value in
    let now : sheet.version vs w.word ≡ (item_of w.value).version = ap (λ z. (item_of z).version) (get_or-set_same ws w.word w.value 0 r.0.high) in
    let one = write-relabels shape s ws w g r.0 (omega (arith, now, raised-bound vs writes w.word r.1, few w.word))
    (ordered-first shape.items s.list vs writes o.1) in
    let high : w.word < first_vertex shape = omega (arith, r.0.high, g.plain_long) in
    let is : after_store shape s e ≡ relabelled s e = after-relabel shape s e r.0.low high g.quiet in
    let rest = relabel-all shape (relabelled s e) vs writes one.goes r.1 o.1 few in
    record {
      legal_ = (one.may, subst (legal.StateHolds shape) (sym is) one.holds, subst (λ t. legal.LegalFrom shape t (stores_of writes)) (sym is) rest.legal_);
      goes = subst (λ t. Goes shape (after_stores shape t (stores_of writes)) (sheet.stored vs writes)) (sym is) rest.goes;
      list = ap (λ t. (after_stores shape t (stores_of writes)).list) is ∙ rest.list;
      entries = ap (λ t. (after_stores shape t (stores_of writes)).entries) is ∙ rest.entries;
      words =
          λ v.
          ap (λ t. get_or (after_stores shape t (stores_of writes)).words (first_vertex shape + v) 0) is
          ∙ (rest.words v ∙ get_or-set_other s.words w.word (first_vertex shape + v) w.value 0 (λ k. omega (arith, k, high)));
    }
